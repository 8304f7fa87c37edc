-- operands that are put in place of others
use Rattle.std.proofs.Common.{◌≡◌, ℕ, List, [], ◌∷◌, length, refl, ap, arith}
use Rattle.forms.specs.Terms.{terms_on-read, terms_on-own, terms_on-terms_on}
use Rattle.tfhe_level.specs.declared.level.TfheOp.{TfheOp}
use Rattle.tfhe_level.specs.declared.level.TfheOp.TheVariants.{Input, Lin, Switch, Boot, Out}
use Rattle.tfhe_level.specs.Operations.{operands_of, first_of, with_operands, held_of}

one_operand : (source : ℕ) (operands : List ℕ) → length operands ≡ 1 → first_of operands source ∷ [] ≡ operands
one_operand source [] same = absurd (omega arith)
one_operand source (operand ∷ []) same = refl
one_operand source (operand ∷ other ∷ others) same = absurd (omega arith)

first_of-other : (operands : List ℕ) (source other : ℕ) → length operands ≡ 1 → first_of operands source ≡ first_of operands other
first_of-other [] source other same = absurd (omega arith)
first_of-other (operand ∷ operands) source other same = refl

-- the operands that are put are those that are read
pub put_is_read : (op : TfheOp) (operands : List ℕ) → length operands ≡ length (operands_of op) → operands_of (with_operands op operands) ≡ operands
put_is_read (Input lo hi) [] same = refl
put_is_read (Input lo hi) (operand ∷ operands) same = absurd (omega arith)
put_is_read (Lin constant terms) operands same = terms_on-read terms operands same
put_is_read (Switch source) operands same = one_operand source operands same
put_is_read (Boot source entries) operands same = one_operand source operands same
put_is_read (Out source lo hi) operands same = one_operand source operands same

-- to put the operands that are there changes nothing
pub own_put_is_same : (op : TfheOp) → with_operands op (operands_of op) ≡ op
own_put_is_same (Input lo hi) = refl
own_put_is_same (Lin constant terms) = ap (λ ts. Lin constant ts) (terms_on-own terms)
own_put_is_same (Switch source) = refl
own_put_is_same (Boot source entries) = refl
own_put_is_same (Out source lo hi) = refl

-- operands that are put leave nothing of those put before
pub last_put_stays : (op : TfheOp) (first last : List ℕ) → length first ≡ length (operands_of op) → length last ≡ length (operands_of op) → with_operands (with_operands op first) last ≡ with_operands op last
last_put_stays (Input lo hi) first last same_first same_last = refl
last_put_stays (Lin constant terms) first last same_first same_last = ap (λ ts. Lin constant ts) (terms_on-terms_on terms first last same_first same_last)
last_put_stays (Switch source) first last same_first same_last = ap (λ s. Switch s) (first_of-other last (first_of first source) source same_last)
last_put_stays (Boot source entries) first last same_first same_last = ap (λ s. Boot s entries) (first_of-other last (first_of first source) source same_last)
last_put_stays (Out source lo hi) first last same_first same_last = ap (λ s. Out s lo hi) (first_of-other last (first_of first source) source same_last)

-- the key that a value is under does not hang on the operands
pub put_keeps_held : (op : TfheOp) (operands : List ℕ) → length operands ≡ length (operands_of op) → held_of (with_operands op operands) ≡ held_of op
put_keeps_held (Input lo hi) operands same = refl
put_keeps_held (Lin constant terms) operands same = refl
put_keeps_held (Switch source) operands same = refl
put_keeps_held (Boot source entries) operands same = refl
put_keeps_held (Out source lo hi) operands same = refl
