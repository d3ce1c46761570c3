-- A frame as text: docs/LESSONS.md, "Steps", FRAME, and "From bytes to text".
use Rattle.std.specs.Prelude.{Bool, true, false, not, ◌&&◌, List, [], ◌∷◌, ◌++◌, ℕ, ◌-◌, ◌/◌, ◌^◌, eqb, ltb, leb, take, drop}
use Rattle.base.specs.Base.{pick, bit}
use Rattle.model.specs.Records.{record_of}
use Rattle.model.specs.Reception.{malformed, data_bytes, bytes_kept}
use Rattle.model.specs.declared.Frame.{Frame}
use Rattle.model.specs.declared.Step.TheVariants.{Receive}
use Rattle.names.specs.Table as tables
use Rattle.text.specs.Numbers.{decimal, digits, hex}
use Rattle.phrases.specs.Names.{name_text, leading}

-- the word of a tag; 14 is `bytes`
abbrev pub word_text : ℕ → List ℕ
word_text tag = name_text (tag - 1) 0

abbrev pub begun : ℕ → List ℕ
begun tag = leading (tag - 1)

-- ---- bytes

unfoldable pub pair_text : Bool → ℕ → List ℕ
pair_text blank b = pick blank (32 ∷ digits b 2) (digits b 2)

-- two hex digits for each byte, with a blank in front or not
unfoldable pub pairs_text : Bool → List ℕ → List ℕ
pairs_text blank [] = []
pairs_text blank (b ∷ s) = pair_text blank b ++ pairs_text blank s

unfoldable pub bytes_text : List ℕ → List ℕ
bytes_text s = word_text 14 ++ pairs_text true s

-- the eight data bytes
abbrev pub data_of : Frame → List ℕ
data_of x = drop 8 (record_of (Receive x))

-- ---- the worded form

-- no bit of the identifier word is lost, the length code is at most 15, and no data is past the length
unfoldable pub is_worded : Frame → Bool
is_worded x =
    not (malformed x) && eqb (bytes_kept (data_bytes x) x.low) x.low && eqb (bytes_kept (data_bytes x - 4) x.high) x.high

-- eight digits of an extended identifier, three of a standard one
unfoldable pub identifier_text : ℕ → List ℕ
identifier_text w = pick (bit 2 w) (digits (w / 8) 8) (digits (w / 2 ^ 21) 3)

-- R, and a length code that isn't 0, at most 8
unfoldable pub remote_text : ℕ → List ℕ
remote_text n = 82 ∷ pick (eqb n 0) [] (pick (ltb n 8) (digits n 1) (56 ∷ []))

unfoldable pub data_text : Frame → List ℕ
data_text x = pairs_text false (take (data_bytes x) (data_of x))

unfoldable pub payload_text : Frame → List ℕ
payload_text x = pick (bit 1 x.identifier) (remote_text x.length) (data_text x)

-- a length code above 8 stands behind an underscore
unfoldable pub code_text : ℕ → List ℕ
code_text n = pick (leb n 8) [] (95 ∷ digits n 1)

unfoldable pub worded_text : Frame → List ℕ
worded_text x = begun 9 ++ (identifier_text x.identifier ++ (35 ∷ (payload_text x ++ code_text x.length)))

-- ---- as bytes

unfoldable pub remark_text : Frame → List ℕ
remark_text x =
    tables.bytes " # frame, identifier word " ++ (hex x.identifier 8
    ++ (tables.bytes ", length code " ++ (decimal x.length
    ++ (tables.bytes ", data" ++ pairs_text true (data_of x)))))

unfoldable pub unworded_text : Frame → List ℕ
unworded_text x = bytes_text (record_of (Receive x)) ++ remark_text x

unfoldable pub frame_text : Frame → List ℕ
frame_text x = pick (is_worded x) (worded_text x) (unworded_text x)
