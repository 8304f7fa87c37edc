-- The test of a sort by cost tells choices of one cost.
use Rattle.std.proofs.Common.{◌≡◌, ℕ, Bool, true, false, cond, ltb, eqb, refl, arith, ap, sym, ◌∙◌}
use Rattle.std.specs.Prelude.{not}
use Rattle.std.specs.Ordering.{is_lt, nat_cmp}
use Rattle.std.specs.declared.cmp.Ordering.TheVariants.{Less, Equal, Greater}
use Rattle.std.specs.List.Sorted.{ties}
use Rattle.std.proofs.lemmas.Bool.{and_parts, ltb-false, le-ltb}
use Rattle.param_search.specs.declared.choices.Priced.{Priced}
use Rattle.param_search.proofs.Ordering.{TellsCosts}

abbrev pub one_cost : Priced → Priced → Bool
one_cost = ties (λ x y. is_lt (nat_cmp x.cost y.cost))

less_step : (less same : Bool) → is_lt (cond less Less (cond same Equal Greater)) ≡ less
less_step true same = refl
less_step false true = refl
less_step false false = refl

is_less : (m n : ℕ) → is_lt (nat_cmp m n) ≡ ltb m n
is_less m n = less_step (ltb m n) (eqb m n)

not_true : (b : Bool) → not b ≡ true → b ≡ false
not_true false e = refl
not_true true e = absurd (let e = e in cc)

pub tells : TellsCosts one_cost
tells x y = (
  λ e.
      let a = and_parts (not (is_lt (nat_cmp x.cost y.cost))) (not (is_lt (nat_cmp y.cost x.cost))) e in
      let b = not_true (ltb x.cost y.cost) (ap (λ t. not t) (sym (is_less x.cost y.cost)) ∙ a.0) in
      let c = not_true (ltb y.cost x.cost) (ap (λ t. not t) (sym (is_less y.cost x.cost)) ∙ a.1) in
      omega (arith, ltb-false x.cost y.cost b, ltb-false y.cost x.cost c),
  λ same.
      rw (is_less x.cost y.cost, is_less y.cost x.cost, le-ltb x.cost y.cost (omega (arith, same)), le-ltb y.cost x.cost (omega (arith, same))) refl,
)
