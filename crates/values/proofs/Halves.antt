-- The numbers that request 7 names, computed: which texts are one value, how they stand, and which are unfit.
use Rattle.std.specs.Prelude.{Some, None}
use mathlib.Core.Path.{◌≡◌, refl}
use lib.IntN.{pos, negsuc}
use Rattle.text.specs.Bytes.{bytes, numbers, all, span}
use Rattle.text.specs.Class.{is_digit}
use Rattle.std.specs.declared.cmp.Ordering.TheVariants.{Less}
use Rattle.values.specs.Values.{decimal, read_digits, read_fraction, read_thousandths, read_number, order_numbers}

-- "`-0.0` equals 0"
pub zero_below : read_number (bytes "-0.0") ≡ read_number (bytes "0")
unfolding read_number read_thousandths read_fraction read_digits decimal all span is_digit
zero_below = refl

-- `1.5`, `1.50` and `01.500` are one.
pub one_and_a_half : (read_number (bytes "1.5") ≡ Some (pos 1500)) × (read_number (bytes "1.50") ≡ Some (pos 1500)) × (read_number (bytes "01.500") ≡ Some (pos 1500))
unfolding read_number read_thousandths read_fraction read_digits decimal all span is_digit
one_and_a_half = (refl, refl, refl)

-- "`-0.5` lies between -1 and 0"
pub half_below : (read_number (bytes "-0.5") ≡ Some (negsuc 499)) × (read_number (bytes "-1") ≡ Some (negsuc 999))
unfolding read_number read_thousandths read_fraction read_digits decimal all span is_digit
half_below = (refl, refl)

pub between : (order_numbers (negsuc 999) (negsuc 499) ≡ Less) × (order_numbers (negsuc 499) (pos 0) ≡ Less)
unfolding numbers
between = (refl, refl)

-- The largest number, and one of 16 digits before the point.
pub largest : (read_number (bytes "999999999999999.999") ≡ Some (pos 999_999_999_999_999_999)) × (read_number (bytes "1000000000000000.0") ≡ None)
unfolding read_number read_thousandths read_fraction read_digits decimal all span is_digit
largest = (refl, refl)

-- `1.`, `.5`, `1.2345`, `1,5`, `+1` and `1e3` are unfit.
pub unfit : (read_number (bytes "1.") ≡ None) × (read_number (bytes ".5") ≡ None) × (read_number (bytes "1.2345") ≡ None) × (read_number (bytes "1,5") ≡ None) × (read_number (bytes "+1") ≡ None) × (read_number (bytes "1e3") ≡ None)
unfolding read_number read_thousandths read_fraction read_digits decimal all span is_digit
unfit = (refl, refl, refl, refl, refl, refl)
