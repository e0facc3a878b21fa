-- Numbers in a capture's byte order.
use Rattle.std.specs.Prelude.{ℕ, List}
use Rattle.byteorder.specs.Endian.{big_number, little_number}
use Rattle.epic_capture.specs.declared.numbers.Order.{Order}
use Rattle.epic_capture.specs.declared.numbers.Order.TheVariants.{Little, Big}

-- the number in the first n bytes
abbrev pub number : Order → ℕ → List ℕ → ℕ
number Little n bytes = little_number n bytes
number Big n bytes = big_number n bytes
