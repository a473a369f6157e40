-- A piece of the text as a constant of a kind.
use Rattle.std.specs.Prelude.{Option, Some, None}
use Rattle.std.specs.Option.{option_map}
use Prim.Native.Nat.{ℕ}
use mathlib.Core.Path.{◌≡◌, refl}
use Rattle.text.specs.Bytes.{Bytes}
use Rattle.text.specs.Parts.{part_of}
use Rattle.text.specs.declared.Span.{Span}
use Rattle.values.specs.declared.Kind.{Kind}
use Rattle.values.specs.Values.{scalar, map_option, read_scalar, read_constant}
use Rattle.query_core.specs.declared.Constant.{Constant}
use Rattle.query_core.specs.Reading.{constant_by}
use Rattle.query_core_emit.specs.Emission.{constant_in}

-- The constant of a piece is the one that is read.
module _ (s : Bytes) (p : Span) where
  pub constant_is : (k : Kind) → read_constant k (part_of s p) ≡ option_map (constant_by s) (constant_in s p k)
  unfolding constant_in
  constant_is Kind.Page = refl
  constant_is (Kind.Scalar k) = go (read_scalar k (part_of s p))
    where
      go : (o : Option ℕ) → map_option (scalar k) o ≡ option_map (constant_by s) (option_map (Constant.Scalar k) o)
      go None = refl
      go (Some n) = refl
  constant_is Kind.String = refl
