-- Patterns that are kept by their equality are look-ups that are the same.
use Rattle.std.proofs.Common.{◌≡◌, ℕ, ◌+◌, Bool, true, false, cond, List, [], ◌∷◌, ◌++◌, length, map, refl, sym, ap, ◌∙◌, rules}
use Rattle.std.specs.Prelude.{not, ◌||◌}
use Rattle.std.specs.List.{list_any, position_or_len}
use Rattle.std.proofs.lemmas.List.{map_push}
use Rattle.indexmap.specs.IndexSet.{insert_key}
use Rattle.live_patterns.specs.declared.patterns.Look.{Look}
use Rattle.pattern_walk.specs.declared.looks.Pattern.{Pattern}
use Rattle.pattern_walk.specs.Looking.{same_look, place_in, is_new}
use Rattle.pattern_walk.specs.Patterns.{look_in}

module _ (eq : Pattern → Pattern → Bool) (same : (p q : Pattern) → eq p q ≡ same_look (look_in p) (look_in q)) (pattern : Pattern) where
  any_same : (patterns : List Pattern) → list_any (eq pattern) patterns ≡ list_any (same_look (look_in pattern)) (map look_in patterns)
  any_same [] = refl
  any_same (p ∷ patterns) =
      ap (λ b. b || list_any (eq pattern) patterns) (same pattern p)
      ∙ ap (λ b. same_look (look_in pattern) (look_in p) || b) (any_same patterns)

  -- whether it is new
  pub new_same : (patterns : List Pattern) → not (list_any (eq pattern) patterns) ≡ is_new (map look_in patterns) (look_in pattern)
  new_same patterns = ap not (any_same patterns)

  -- its place
  pub place_same : (patterns : List Pattern) → position_or_len (eq pattern) patterns ≡ place_in (map look_in patterns) (look_in pattern)
  place_same [] = refl
  place_same (p ∷ patterns) =
      ap (λ b. cond (not b) (1 + position_or_len (eq pattern) patterns) 0) (same pattern p)
      ∙ ap (λ (n : ℕ). cond (not (same_look (look_in pattern) (look_in p))) (1 + n) 0) (place_same patterns)

  put_as : (b : Bool) (patterns : List Pattern)
      → map look_in (cond b patterns (patterns ++ pattern ∷ []))
      ≡ cond (not b) (map look_in patterns ++ look_in pattern ∷ []) (map look_in patterns)
  put_as true patterns = refl
  put_as false patterns = map_push look_in patterns pattern

  -- what stands after it
  pub put_same : (patterns : List Pattern)
      → map look_in (insert_key eq patterns pattern)
      ≡ cond (is_new (map look_in patterns) (look_in pattern)) (map look_in patterns ++ look_in pattern ∷ []) (map look_in patterns)
  put_same patterns =
      put_as (list_any (eq pattern) patterns) patterns
      ∙ ap (λ b. cond b (map look_in patterns ++ look_in pattern ∷ []) (map look_in patterns)) (new_same patterns)
