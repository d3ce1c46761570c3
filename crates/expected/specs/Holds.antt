-- Whether an answer is what is expected of a step: docs/LESSONS.md, "What is expected".
use Rattle.std.specs.Prelude.{Bool, true, ◌&&◌, eqb, ℕ, Option, Some, None}
use Rattle.model.specs.declared.Answer.{Answer}
use Rattle.expected.specs.declared.Response.{Response}
use Rattle.expected.specs.declared.Expected.{Expected}

-- what is not given is not compared
abbrev pub response_holds : Option Response → Answer → Bool
response_holds None a = true
response_holds (Some x) a = eqb x.code a.code && eqb x.word a.word

abbrev pub lines_hold : Option ℕ → Answer → Bool
lines_hold None a = true
lines_hold (Some up) a = eqb up a.lines

unfoldable pub holds : Expected → Answer → Bool
holds x a = response_holds x.response a && lines_hold x.lines a
