-- Numbers too wide for a step, as ones that are refused alike: the calls' contracts speak of the numbers themselves.
use Rattle.std.specs.Prelude.{ℕ, ltb}
use Rattle.base.specs.Base.{pick}

-- no register is at 65535
unfoldable pub offset : ℕ → ℕ
offset n = pick (ltb 65535 n) 65535 n

-- 0 bit times are out of range
unfoldable pub count : ℕ → ℕ
count n = pick (ltb 65535 n) 0 n

-- 255 is out of range for a result, a length code, an error code and a step
unfoldable pub byte : ℕ → ℕ
byte n = pick (ltb 255 n) 255 n
