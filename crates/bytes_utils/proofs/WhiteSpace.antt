-- No graphic ASCII character is white space.
use Rattle.std.proofs.Common.{◌≡◌, ℕ, false, arith}
use Rattle.std.specs.Char.{IsAsciiGraphic, is_whitespace, is_ascii_whitespace}

pub graphic-no_whitespace : (c : ℕ) → IsAsciiGraphic c → is_whitespace c ≡ false
graphic-no_whitespace c is = grind arith

pub graphic-no_ascii_whitespace : (c : ℕ) → IsAsciiGraphic c → is_ascii_whitespace c ≡ false
graphic-no_ascii_whitespace c is = grind arith

pub ruleset none_graphic = (graphic-no_whitespace, graphic-no_ascii_whitespace)
