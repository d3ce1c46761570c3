-- The one table of names by its groups: the manual's registers and fields, the words of a lesson. Trace, text and the reader of
-- lessons share it.
use Rattle.std.specs.Prelude.{List, ℕ, ◌+◌, ◌*◌, Option, Some, None}
unfoldable pub use Rattle.names.specs.Listing.{bytes}
use Rattle.names.specs.Rows.{numbers, find_on, indexed, register_on}
use Rattle.names.specs.declared.scan.Word.{Word}
use Rattle.names.specs.declared.rows.Found.{Found}
use Rattle.names.specs.declared.Span.{Span}
use Rattle.names.specs.declared.Group.{Group}
use Rattle.names.specs.declared.Group.TheVariants.{Registers, Fields, Steps, Results, Lines, Expectations}

abbrev pub span : ℕ → ℕ → Span
span i n = record { first = i; count = n }

-- the rows of a group: the first, and how many there are; the last two numbers of a register are those of its fields
unfoldable pub rows_of : Group → Span
rows_of Registers = span 30 23
rows_of (Fields None) = span 0 0
rows_of (Fields (Some f)) = span (numbers f.row).digits (numbers f.row).shown
rows_of Steps = span 0 14
rows_of Results = span 14 9
rows_of Lines = span 23 5
rows_of Expectations = span 28 2

-- the row that a word names in a group
unfoldable pub named : List ℕ → Word → Group → Option Found
named s w g = indexed s w (find_on s w (rows_of g).first (rows_of g).count)

-- the row of the register at an offset
unfoldable pub register_at : ℕ → Option Found
register_at o = register_on o 30 23

-- an offset, a lowest bit, a tag, a result, a line
unfoldable pub place : Found → ℕ
place f = (numbers f.row).place + (numbers f.row).size * f.index
