-- What holds of a source within the limits.
use Rattle.std.proofs.Common.{◌≡◌, ℕ, ◌<◌, ◌≤◌, max, Bool, true, false, cond, ltb, List, [], ◌∷◌, length, fold, All, refl, sym, ap, ◌∙◌, subst, inl, inr, arith, Option, Some, None}
use Rattle.std.specs.Prelude.{count_by}
use Rattle.std.specs.Option.{option_or}
use Rattle.std.specs.List.{AllByRecursion}
use Rattle.std.proofs.lemmas.Bool.{cases_lt, lt-ltb}
use Rattle.std.proofs.lemmas.List.Elements.{All-from_recursion}
use Rattle.fhe_text.specs.declared.source.Arg.{Arg}
use Rattle.fhe_text.specs.declared.source.Source.{Source}
use Rattle.fhe_level.specs.declared.fault.LimitName.{LimitName}
use Rattle.fhe_level.specs.declared.fault.LimitName.TheVariants.{Operations, Arguments, Results, Lookups, Width}
use Rattle.fhe_level.specs.declared.fault.LimitFault.{LimitFault}
use Rattle.fhe_level.specs.Limits.{over, width_of, widest, widest_arg, widest_statement, source_width, is_look_up, limit_fault, most_operations, most_look_ups}

-- ---- the greatest of some numbers

-- a greatest number bounds what it began with and each number
pub fold_max_all : {A : Type 0} (f : A → ℕ) (least most : ℕ) (xs : List A) → fold (λ n x. max n (f x)) least xs ≤ most
    → (least ≤ most) × AllByRecursion (λ x. f x ≤ most) xs
fold_max_all f least most [] within = (within, tt)
fold_max_all f least most (x ∷ xs) within =
    let rest = fold_max_all f (max least (f x)) most xs within in
    (omega (arith, rest.0), (omega (arith, rest.0), rest.1))

pub each_width : (args : List Arg) (most : ℕ) → widest_arg args ≤ most → All (λ arg. width_of arg.ty ≤ most) args
each_width args most within =
    All-from_recursion (λ (arg : Arg). width_of arg.ty ≤ most) args (fold_max_all (λ (arg : Arg). width_of arg.ty) 0 most args within).1

-- ---- no limit is passed

pub first_none : {A : Type 0} (a b : Option A) → option_or a b ≡ None → (a ≡ None) × (b ≡ None)
first_none None b e = (refl, e)
first_none (Some x) b e = absurd cc

not_over : (what : LimitName) (count most : ℕ) → over what count most ≡ None → count ≤ most
not_over what count most e =
    elim (cases_lt most count) [
      | inl above ↦ absurd (let f : over what count most ≡ Some (record { what = what; count = count; most = most }) = rw (lt-ltb most count above) refl in cc)
      | inr within ↦ within
    ]

-- what a source within the limits has
pub record IsWithin (source : Source) : Type 0 where
  pub operations : length source.body ≤ 4096
  pub arguments : length source.args ≤ 64
  pub results : length source.results ≤ 64
  pub look_ups : count_by is_look_up source.body ≤ 1024
  pub widths : widest_arg source.args ≤ 16
  pub statement_widths : widest_statement source.body ≤ 16

pub within_limits : (source : Source) → limit_fault source ≡ None → IsWithin source
within_limits source e =
    let width = first_none _ _ e in
    let look_ups = first_none _ _ width.0 in
    let results = first_none _ _ look_ups.0 in
    let arguments = first_none _ _ results.0 in
    let most : source_width source ≤ 16 = not_over Width (source_width source) 16 width.1 in
    record {
      operations = not_over Operations (length source.body) 4096 arguments.0;
      arguments = not_over Arguments (length source.args) 64 arguments.1;
      results = not_over Results (length source.results) 64 results.1;
      look_ups = not_over Lookups (count_by is_look_up source.body) 1024 look_ups.1;
      widths = omega (arith, most);
      statement_widths = omega (arith, most);
    }
