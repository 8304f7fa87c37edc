-- What holds of the values of a file.
use Rattle.std.specs.Prelude.{◌≡◌, ℕ, List, Ok, ℤ}
use Rattle.forms.specs.Forms.{AreIn}
use Rattle.value_files.specs.Values.{values_of}

pub record ValueLaws : Type 0 where
  -- they lie in their ranges, one in each
  pub within : (bytes : List ℕ) (ranges : List (ℤ × ℤ)) (values : List ℤ) → values_of bytes ranges ≡ Ok values
      → AreIn ranges values
