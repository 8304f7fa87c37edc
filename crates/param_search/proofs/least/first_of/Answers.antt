use Rattle.std.proofs.Common.{◌≡◌, ◌+◌, ◌<◌, false, [], ◌∷◌, ◌++◌, length, take, sym, ap, refl, ◌∙◌, arith, subst}
use Rattle.std.specs.Prelude.{Some, None, filter_map}
use Rattle.std.specs.List.{slice_index_or, position_or_len, AllByRecursion}
use Rattle.std.proofs.lemmas.List.{take_more, take_all}
use Rattle.std.proofs.lemmas.List.Elements.{filter_map-append}
use Rattle.noise_model.specs.Constraints.{first_broken_of}
use Rattle.param_search.specs.declared.choices.Priced.{Priced}
use Rattle.param_search.specs.Search.{broken_by, is_feasible, refused, refusal_of}
use Rattle.param_search.proofs.Trying.{first_at, none_passes, none_more}
use Rattle.param_search.proofs.Results.{found_made, is_refused, is_taken, one_refused, chosen_of}
use Rattle.param_search.proofs.least.first_of.Goals as goal

abbrev other : Priced
other = record { cost = 0; choice = record { glwe = 0; lwe = 0; boot = 0; switch = 0 } }

pub returns-in-None : goal.returns-in-None
returns-in-None c =
    let table = c.args.table.now in
    let shape = c.args.shape.now in
    let choices = c.args.choices.now in
    let i = c.loop-choice.choice-index in
    let x : Priced = slice_index_or choices i other in
    let met : broken_by table shape x ≡ None = sym (c.in-None.ensures.first ∙ ap (λ q. first_broken_of q shape) c.params-params.ensures) in
    let first = first_at (is_feasible table shape) choices i other x (omega (arith, c.loop-choice-test.true)) refl c.loop-choice.invariant.none (is_taken table shape x met) in
    found_made
    (c.from_vec.ensures ∙ c.loop-choice.invariant.refused ∙ ap (λ n. filter_map (refusal_of table shape) (take n choices)) (sym first.0))
    (ap (λ found. chosen_of found) (sym first.1))

pub loop-choice-preserved : goal.loop-choice-preserved
loop-choice-preserved c =
    let table = c.args.table.now in
    let shape = c.args.shape.now in
    let choices = c.args.choices.now in
    let i = c.loop-choice.choice-index in
    let x : Priced = slice_index_or choices i other in
    let lt : i < length choices = omega (arith, c.loop-choice-test.true) in
    let broken : broken_by table shape x ≡ Some c.in-Some.broken = sym (c.in-Some.ensures.first ∙ ap (λ q. first_broken_of q shape) c.params-params.ensures) in
    let front : take (i + 1) choices ≡ take i choices ++ x ∷ [] = take_more choices i other lt in
    let more = ap (λ l. filter_map (refusal_of table shape) l) front ∙ filter_map-append (refusal_of table shape) (take i choices) (x ∷ []) ∙ ap (λ l. filter_map (refusal_of table shape) (take i choices) ++ l) (one_refused table shape x c.in-Some.broken broken) in
    record {
      none = none_more (λ choice. is_feasible table shape choice ≡ false) choices i other lt c.loop-choice.invariant.none (is_refused table shape x c.in-Some.broken broken);
      refused = c.in_ok-push-in-Some.ensures.items ∙ ap (λ l. l ++ refused x c.in-Some.broken ∷ []) c.loop-choice.invariant.refused ∙ sym more;
      room = c.in-Some.ensures.room;
    }

pub returns : goal.returns
returns c =
    let table = c.args.table.now in
    let shape = c.args.shape.now in
    let choices = c.args.choices.now in
    let i = c.loop-choice.choice-index in
    let all : take i choices ≡ choices = take_all i choices (omega (arith, c.loop-choice-test.false)) in
    let none = none_passes (is_feasible table shape) choices (subst (λ l. AllByRecursion (λ choice. is_feasible table shape choice ≡ false) l) all c.loop-choice.invariant.none) in
    let whole : take (position_or_len (is_feasible table shape) choices) choices ≡ choices = ap (λ n. take n choices) none.0 ∙ take_all (length choices) choices (omega arith) in
    found_made
    (c.from_vec-2.ensures ∙ c.loop-choice.invariant.refused ∙ ap (λ l. filter_map (refusal_of table shape) l) (all ∙ sym whole))
    (ap (λ found. chosen_of found) (sym none.1))
