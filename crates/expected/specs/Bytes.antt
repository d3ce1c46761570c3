-- An expectation as eight bytes: whether a response is given, its code and its word; whether interrupt lines are, and they.
use Rattle.std.specs.Prelude.{List, [], ◌∷◌, ◌++◌, ℕ, eqb, get_or, Option, Some, None}
use Rattle.std.specs.Int.{to_le_bytes, from_le_bytes}
use mir.Syntax.{w32}
use Rattle.base.specs.Base.{pick}
use Rattle.expected.specs.declared.Response.{Response}
use Rattle.expected.specs.declared.Expected.{Expected}

-- what is not given has zeros
abbrev pub response_bytes : Option Response → List ℕ
response_bytes None = 0 ∷ 0 ∷ 0 ∷ 0 ∷ 0 ∷ 0 ∷ []
response_bytes (Some x) = 1 ∷ x.code ∷ to_le_bytes w32 x.word

abbrev pub line_bytes : Option ℕ → List ℕ
line_bytes None = 0 ∷ 0 ∷ []
line_bytes (Some up) = 1 ∷ up ∷ []

unfoldable pub bytes_of : Expected → List ℕ
bytes_of x = response_bytes x.response ++ line_bytes x.lines

-- of the bytes of one
abbrev pub word_in : List ℕ → ℕ
word_in l = from_le_bytes w32 (get_or l 2 0 ∷ get_or l 3 0 ∷ get_or l 4 0 ∷ get_or l 5 0 ∷ [])

unfoldable pub expected_of : List ℕ → Expected
expected_of l = record {
  response = pick (eqb (get_or l 0 0) 0) None (Some (record { code = get_or l 1 0; word = word_in l }));
  lines = pick (eqb (get_or l 6 0) 0) None (Some (get_or l 7 0));
}
