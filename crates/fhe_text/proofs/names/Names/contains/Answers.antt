use Rattle.std.proofs.Common.{sym, ap, ◌∙◌}
use Rattle.std.specs.Str.{bytes_eq}
use Rattle.fhe_text.specs.Conditions.{is_among}
use Rattle.fhe_text.proofs.NameLemmas.{list_any-map}
use Rattle.fhe_text.proofs.names.Names.contains.Goals as goal

pub returns : goal.returns
returns c =
    c.contains.ensures ∙ sym (list_any-map (bytes_eq c.args.name.now) (λ name. name.now) c.self.inside.set.keys)
    ∙ ap (λ names. is_among names c.args.name.now) c.self.view_is
