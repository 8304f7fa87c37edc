use Rattle.std.proofs.Common.{ap, ◌∙◌, map, [], ◌∷◌, ◌++◌}
use Rattle.std.specs.Str.{bytes_eq}
use Rattle.fhe_text.specs.Conditions.{is_among}
use Rattle.fhe_text.proofs.NameLemmas.{map-insert}
use Rattle.fhe_text.proofs.names.Names.define.Goals as goal

pub returns : goal.returns
returns c =
    ap (λ keys. map (λ name. name.now) keys) c.in_ok-insert.ensures.keys
    ∙ map-insert (bytes_eq c.args.name.now) (λ name. name.now) c.self.inside.set.keys c.args.name (ap (λ names. is_among names c.args.name.now) c.self.view_is ∙ c.requires)
    ∙ ap (λ names. names ++ c.args.name.now ∷ []) c.self.view_is
