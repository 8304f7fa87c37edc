-- Patterns as the code keeps them.
use Rattle.live_patterns.specs.declared.patterns.Look.{Look}
use Rattle.pattern_walk.specs.declared.looks.Pattern.{Pattern}

-- the look-up of a pattern
abbrev pub look_in : Pattern → Look
look_in pattern = record {
  form = record { constant = pattern.constant; terms = pattern.terms.items };
  entries = pattern.entries.items;
}
