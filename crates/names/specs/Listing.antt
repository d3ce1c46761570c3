-- The one list of names, row by row: the words of a lesson, the manual's registers and fields. What a row's columns are stands in
-- Rows.antt.
use Rattle.std.specs.Prelude.{List, [], ◌∷◌, ◌++◌, ℕ, zero, suc, ◌*◌, ◌-◌, ◌/◌, ◌%◌, ltb, leb, length, take, drop, replicate}
use Prim.Native.Char.{code}
use Prim.Native.String.{String, [] as ended, ◌∷◌ as ◌then◌}
use Rattle.base.specs.Base.{pick}

-- a text as bytes
unfoldable pub bytes : String → List ℕ
bytes ended = []
bytes (c then s) = code c ∷ bytes s

-- a row as bytes: eight for the name, with blanks behind it, two for the place, one for each other number
unfoldable pub row : String → ℕ → ℕ → ℕ → ℕ → ℕ → List ℕ
row name place size count x y = bytes name ++ (place / 256 ∷ place % 256 ∷ size ∷ count ∷ x ∷ y ∷ [])

-- rows 0 to 52
unfoldable pub general : List (List ℕ)
general =
    -- what begins a line
    row "reset   " 01 01 01 0 0 ∷
    row "read    " 02 01 01 0 0 ∷
    row "write   " 03 01 01 0 0 ∷
    row "idle    " 04 01 01 0 0 ∷
    row "bits    " 05 01 01 0 0 ∷
    row "activity" 06 01 01 0 0 ∷
    row "start   " 07 01 01 0 0 ∷
    row "end     " 08 01 01 0 0 ∷
    row "frame   " 09 01 01 0 0 ∷
    row "error   " 10 01 01 0 0 ∷
    row "expect  " 11 01 01 0 0 ∷
    row "repeat  " 12 01 01 0 0 ∷
    row "done    " 13 01 01 0 0 ∷
    row "bytes   " 14 01 01 0 0 ∷
    -- the results of an own frame
    row "good    " 00 01 01 0 0 ∷
    row "stuff   " 01 01 01 0 0 ∷
    row "form    " 02 01 01 0 0 ∷
    row "ack     " 03 01 01 0 0 ∷
    row "bit1    " 04 01 01 0 0 ∷
    row "bit0    " 05 01 01 0 0 ∷
    row "crc     " 06 01 01 0 0 ∷
    row "lost    " 07 01 01 0 0 ∷
    row "alone   " 08 01 01 0 0 ∷
    -- the interrupt lines
    row "TX      " 00 01 01 0 0 ∷
    row "FIFO0   " 01 01 01 0 0 ∷
    row "FIFO1   " 02 01 01 0 0 ∷
    row "SCE     " 03 01 01 0 0 ∷
    row "none    " 04 01 01 0 0 ∷
    -- what is expected
    row "refused " 01 01 01 0 0 ∷
    row "lines   " 02 01 01 0 0 ∷
    -- the registers
    row "MCR     " 0x000 04 01 053 10 ∷
    row "MSR     " 0x004 04 01 063 09 ∷
    row "TSR     " 0x008 04 01 072 22 ∷
    row "RF0R    " 0x00C 04 01 094 04 ∷
    row "RF1R    " 0x010 04 01 098 04 ∷
    row "IER     " 0x014 04 01 102 14 ∷
    row "ESR     " 0x018 04 01 116 06 ∷
    row "BTR     " 0x01C 04 01 122 06 ∷
    row "TI%R    " 0x180 16 03 128 05 ∷
    row "TDT%R   " 0x184 16 03 133 03 ∷
    row "TDL%R   " 0x188 16 03 136 04 ∷
    row "TDH%R   " 0x18C 16 03 140 04 ∷
    row "RI%R    " 0x1B0 16 02 144 04 ∷
    row "RDT%R   " 0x1B4 16 02 148 03 ∷
    row "RDL%R   " 0x1B8 16 02 151 04 ∷
    row "RDH%R   " 0x1BC 16 02 155 04 ∷
    row "FMR     " 0x200 04 01 159 01 ∷
    row "FM1R    " 0x204 04 01 160 01 ∷
    row "FS1R    " 0x20C 04 01 161 01 ∷
    row "FFA1R   " 0x214 04 01 162 01 ∷
    row "FA1R    " 0x21C 04 01 163 01 ∷
    row "F%R1    " 0x240 08 14 000 00 ∷
    row "F%R2    " 0x244 08 14 000 00 ∷ []

-- rows 53 to 163: the fields of the registers
unfoldable pub fields : List (List ℕ)
fields =
    -- MCR
    row "INRQ    " 00 01 01 0 0 ∷
    row "SLEEP   " 01 01 01 0 0 ∷
    row "TXFP    " 02 01 01 0 0 ∷
    row "RFLM    " 03 01 01 0 0 ∷
    row "NART    " 04 01 01 0 0 ∷
    row "AWUM    " 05 01 01 0 0 ∷
    row "ABOM    " 06 01 01 0 0 ∷
    row "TTCM    " 07 01 01 0 0 ∷
    row "RESET   " 15 01 01 0 0 ∷
    row "DBF     " 16 01 01 0 0 ∷
    -- MSR
    row "INAK    " 00 01 01 0 0 ∷
    row "SLAK    " 01 01 01 0 0 ∷
    row "ERRI    " 02 01 01 0 0 ∷
    row "WKUI    " 03 01 01 0 0 ∷
    row "SLAKI   " 04 01 01 0 0 ∷
    row "TXM     " 08 01 01 0 0 ∷
    row "RXM     " 09 01 01 0 0 ∷
    row "SAMP    " 10 01 01 0 0 ∷
    row "RX      " 11 01 01 0 0 ∷
    -- TSR
    row "RQCP0   " 00 01 01 0 0 ∷
    row "TXOK0   " 01 01 01 0 0 ∷
    row "ALST0   " 02 01 01 0 0 ∷
    row "TERR0   " 03 01 01 0 0 ∷
    row "ABRQ0   " 07 01 01 0 0 ∷
    row "RQCP1   " 08 01 01 0 0 ∷
    row "TXOK1   " 09 01 01 0 0 ∷
    row "ALST1   " 10 01 01 0 0 ∷
    row "TERR1   " 11 01 01 0 0 ∷
    row "ABRQ1   " 15 01 01 0 0 ∷
    row "RQCP2   " 16 01 01 0 0 ∷
    row "TXOK2   " 17 01 01 0 0 ∷
    row "ALST2   " 18 01 01 0 0 ∷
    row "TERR2   " 19 01 01 0 0 ∷
    row "ABRQ2   " 23 01 01 0 0 ∷
    row "CODE    " 24 02 01 0 0 ∷
    row "TME0    " 26 01 01 0 0 ∷
    row "TME1    " 27 01 01 0 0 ∷
    row "TME2    " 28 01 01 0 0 ∷
    row "LOW0    " 29 01 01 0 0 ∷
    row "LOW1    " 30 01 01 0 0 ∷
    row "LOW2    " 31 01 01 0 0 ∷
    -- RF0R
    row "FMP0    " 00 02 01 0 0 ∷
    row "FULL0   " 03 01 01 0 0 ∷
    row "FOVR0   " 04 01 01 0 0 ∷
    row "RFOM0   " 05 01 01 0 0 ∷
    -- RF1R
    row "FMP1    " 00 02 01 0 0 ∷
    row "FULL1   " 03 01 01 0 0 ∷
    row "FOVR1   " 04 01 01 0 0 ∷
    row "RFOM1   " 05 01 01 0 0 ∷
    -- IER
    row "TMEIE   " 00 01 01 0 0 ∷
    row "FMPIE0  " 01 01 01 0 0 ∷
    row "FFIE0   " 02 01 01 0 0 ∷
    row "FOVIE0  " 03 01 01 0 0 ∷
    row "FMPIE1  " 04 01 01 0 0 ∷
    row "FFIE1   " 05 01 01 0 0 ∷
    row "FOVIE1  " 06 01 01 0 0 ∷
    row "EWGIE   " 08 01 01 0 0 ∷
    row "EPVIE   " 09 01 01 0 0 ∷
    row "BOFIE   " 10 01 01 0 0 ∷
    row "LECIE   " 11 01 01 0 0 ∷
    row "ERRIE   " 15 01 01 0 0 ∷
    row "WKUIE   " 16 01 01 0 0 ∷
    row "SLKIE   " 17 01 01 0 0 ∷
    -- ESR
    row "EWGF    " 00 01 01 0 0 ∷
    row "EPVF    " 01 01 01 0 0 ∷
    row "BOFF    " 02 01 01 0 0 ∷
    row "LEC     " 04 03 01 0 0 ∷
    row "TEC     " 16 08 01 0 0 ∷
    row "REC     " 24 08 01 0 0 ∷
    -- BTR
    row "BRP     " 00 10 01 0 0 ∷
    row "TS1     " 16 04 01 0 0 ∷
    row "TS2     " 20 03 01 0 0 ∷
    row "SJW     " 24 02 01 0 0 ∷
    row "LBKM    " 30 01 01 0 0 ∷
    row "SILM    " 31 01 01 0 0 ∷
    -- TI%R
    row "STID    " 21 11 01 3 1 ∷
    row "EXID    " 03 29 01 8 2 ∷
    row "IDE     " 02 01 01 0 0 ∷
    row "RTR     " 01 01 01 0 0 ∷
    row "TXRQ    " 00 01 01 0 0 ∷
    -- TDT%R
    row "DLC     " 00 04 01 0 0 ∷
    row "TGT     " 08 01 01 0 0 ∷
    row "TIME    " 16 16 01 0 0 ∷
    -- TDL%R
    row "DATA0   " 00 08 01 2 0 ∷
    row "DATA1   " 08 08 01 2 0 ∷
    row "DATA2   " 16 08 01 2 0 ∷
    row "DATA3   " 24 08 01 2 0 ∷
    -- TDH%R
    row "DATA4   " 00 08 01 2 0 ∷
    row "DATA5   " 08 08 01 2 0 ∷
    row "DATA6   " 16 08 01 2 0 ∷
    row "DATA7   " 24 08 01 2 0 ∷
    -- RI%R
    row "STID    " 21 11 01 3 1 ∷
    row "EXID    " 03 29 01 8 2 ∷
    row "IDE     " 02 01 01 0 0 ∷
    row "RTR     " 01 01 01 0 0 ∷
    -- RDT%R
    row "DLC     " 00 04 01 0 0 ∷
    row "FMI     " 08 08 01 0 0 ∷
    row "TIME    " 16 16 01 0 0 ∷
    -- RDL%R
    row "DATA0   " 00 08 01 2 0 ∷
    row "DATA1   " 08 08 01 2 0 ∷
    row "DATA2   " 16 08 01 2 0 ∷
    row "DATA3   " 24 08 01 2 0 ∷
    -- RDH%R
    row "DATA4   " 00 08 01 2 0 ∷
    row "DATA5   " 08 08 01 2 0 ∷
    row "DATA6   " 16 08 01 2 0 ∷
    row "DATA7   " 24 08 01 2 0 ∷
    -- FMR
    row "FINIT   " 00 01 01 0 0 ∷
    -- FM1R
    row "FBM%    " 00 01 14 0 0 ∷
    -- FS1R
    row "FSC%    " 00 01 14 0 0 ∷
    -- FFA1R
    row "FFA%    " 00 01 14 0 0 ∷
    -- FA1R
    row "FACT%   " 00 01 14 0 0 ∷ []

-- where there is no row
abbrev pub no_row : List ℕ
no_row = replicate 14 0

-- row i of a list of rows
unfoldable pub row_of : List (List ℕ) → ℕ → List ℕ
row_of [] i = no_row
row_of (r ∷ l) zero = r
row_of (r ∷ l) (suc i) = row_of l i

-- a row by its number
unfoldable pub text : ℕ → List ℕ
text i = pick (ltb i 53) (row_of general i) (row_of fields (i - 53))

-- row i of rows that stand one behind the other
unfoldable pub cut : List ℕ → ℕ → List ℕ
cut s i = pick (leb (length s / 14) i) no_row (take 14 (drop (i * 14) s))
