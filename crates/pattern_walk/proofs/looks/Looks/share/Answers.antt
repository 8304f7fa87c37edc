use Rattle.std.proofs.Common.{◌≡◌, ℕ, List, map, refl, sym, ap, ◌∙◌, subst}
use Rattle.live_patterns.specs.declared.patterns.Look.{Look}
use Rattle.pattern_walk.specs.Looking.{place_in, is_new}
use Rattle.pattern_walk.specs.Patterns.{look_in}
use Rattle.pattern_walk.specs.Walking.{with_look}
use Rattle.pattern_walk.proofs.Sharing.{new_same, place_same, put_same}
use Rattle.pattern_walk.proofs.looks.Looks.share.Goals as goal

pub returns-clause-looks : goal.returns-clause-looks
returns-clause-looks c =
    subst (λ (l : List Look). map look_in c.insert_full.new.self.keys ≡ with_look l (look_in c.args.pattern)) c.self.view_is
    (ap (map look_in) c.in_ok-place.ensures.keys ∙ put_same _ (λ p q. refl) c.args.pattern c.self.inside.set.keys)

pub returns-clause-place : goal.returns-clause-place
returns-clause-place c =
    subst (λ (l : List Look). c.in_ok-place.place ≡ place_in l (look_in c.args.pattern)) c.self.view_is
    (c.in_ok-place.ensures.index ∙ place_same _ (λ p q. refl) c.args.pattern c.self.inside.set.keys)

pub returns-clause-added : goal.returns-clause-added
returns-clause-added c =
    subst (λ (l : List Look). c.in_ok-place.added ≡ is_new l (look_in c.args.pattern)) c.self.view_is
    (c.in_ok-place.ensures.added ∙ new_same _ (λ p q. refl) c.args.pattern c.self.inside.set.keys)
