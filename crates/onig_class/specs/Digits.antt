-- What is known of the digits that a text begins with.
use Rattle.std.specs.Prelude.{◌≡◌, ℕ, ◌≤◌, List, length, take, true}
use Rattle.std.specs.List.{list_all}
use Rattle.std.specs.Char.{is_digit}

-- the first so many characters are hexadecimal digits
pub record AreDigits (most count : ℕ) (rest : List ℕ) : Type 0 where
  pub few : count ≤ most
  pub inside : count ≤ length rest
  pub all : list_all (λ c. is_digit c 16) (take count rest) ≡ true
