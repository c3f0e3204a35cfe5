-- "Values are 32-bit signed; "wrapped" means reduced modulo 2^32 into that range."
use Rattle.std.specs.Prelude.{suc, ◌-◌, ◌%◌, ◌^◌, ℤ, pos, negsuc}
use Rattle.laws.specs.Signed.{signed}

-- the remainder modulo 2 ^ 32, read as a signed number (`negsuc n` is - (n + 1), whose remainder is 2 ^ 32 - (n + 1) where n is below 2 ^ 32)
unfoldable pub wrap : ℤ → ℤ
wrap (pos n) = signed (n % 2 ^ 32)
wrap (negsuc n) = signed (2 ^ 32 - suc (n % 2 ^ 32))
