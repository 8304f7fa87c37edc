use Rattle.std.proofs.Common.{sym, ap, subst, ◌∙◌, ◌<◌, List, ℕ, length}
use Rattle.std.specs.Prelude.{IfSome}
use Rattle.std.specs.List.{position}
use Rattle.std.specs.Str.{bytes_eq}
use Rattle.std.proofs.lemmas.List.{length-map}
use Rattle.fhe_text.proofs.NameLemmas.{position-map}
use Rattle.fhe_text.proofs.names.Names.number.Goals as goal

pub returns-clause-exact : goal.returns-clause-exact
returns-clause-exact c =
    c.get_index_of.ensures.index ∙ sym (position-map (bytes_eq c.args.name.now) (λ name. name.now) c.self.inside.set.keys)
    ∙ ap (λ names. position (bytes_eq c.args.name.now) names) c.self.view_is

pub returns-clause-within : goal.returns-clause-within
returns-clause-within c =
    subst (λ (names : List (List ℕ)). IfSome c.get_index_of.result (λ n. n < length names)) c.self.view_is
    (subst (λ k. IfSome c.get_index_of.result (λ n. n < k)) (sym (length-map c.self.inside.set.keys (λ name. name.now))) c.get_index_of.ensures.within)
