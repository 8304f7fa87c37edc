-- Operands that are put in place of others.
use Rattle.std.specs.Prelude.{◌≡◌, ℕ, List, [], ◌∷◌, length, refl}
use Rattle.std.proofs.Common.{ap, arith}
use Rattle.forms.specs.Terms.{terms_on-read, terms_on-own, terms_on-terms_on}
use Rattle.ap_level.specs.declared.level.ApOp.{ApOp}
use Rattle.ap_level.specs.declared.level.ApOp.TheVariants.{Input, Look, Out}
use Rattle.ap_level.specs.Operations.{operands_of, with_operands}

-- the operands that are put are those that are read
pub put_is_read : (op : ApOp) (operands : List ℕ) → length operands ≡ length (operands_of op)
    → operands_of (with_operands op operands) ≡ operands
put_is_read (Input lo hi) [] same = refl
put_is_read (Input lo hi) (operand ∷ operands) same = absurd (omega arith)
put_is_read (Look constant terms entries) operands same = terms_on-read terms operands same
put_is_read (Out constant terms) operands same = terms_on-read terms operands same

-- to put the operands that are there changes nothing
pub own_put_is_same : (op : ApOp) → with_operands op (operands_of op) ≡ op
own_put_is_same (Input lo hi) = refl
own_put_is_same (Look constant terms entries) = ap (λ ts. Look constant ts entries) (terms_on-own terms)
own_put_is_same (Out constant terms) = ap (λ ts. Out constant ts) (terms_on-own terms)

-- operands that are put leave nothing of those put before
pub last_put_stays : (op : ApOp) (first last : List ℕ) → length first ≡ length (operands_of op)
    → length last ≡ length (operands_of op) → with_operands (with_operands op first) last ≡ with_operands op last
last_put_stays (Input lo hi) first last same_first same_last = refl
last_put_stays (Look constant terms entries) first last same_first same_last =
    ap (λ ts. Look constant ts entries) (terms_on-terms_on terms first last same_first same_last)
last_put_stays (Out constant terms) first last same_first same_last =
    ap (λ ts. Out constant ts) (terms_on-terms_on terms first last same_first same_last)
