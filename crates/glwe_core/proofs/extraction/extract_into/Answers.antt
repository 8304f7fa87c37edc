use Rattle.std.proofs.Common.{◌≡◌, ◌+◌, ◌-◌, ◌<◌, ◌≤◌, List, ℕ, length, get_or, ap, subst, sym, ◌∙◌, arith}
use Rattle.glwe_core.specs.Glwe.{HasShape}
use Rattle.glwe_core.proofs.ExtractionLoops.{HasExtracted_none, HasExtracted_more, HasExtracted_all, part_fits, whole_fits, body_inside, some_words}
use Rattle.glwe_core.proofs.extraction.extract_into.Goals as goal

pub loop-j-init : goal.loop-j-init
loop-j-init c = HasExtracted_none c.args.out.now c.args.c.now

pub extract_part-requires : goal.extract_part-requires
extract_part-requires c =
    let parts = c.args.c.now in
    let same : c.c.inside.parts.items ≡ parts = cc in
    let shape : HasShape parts = subst HasShape same c.c.invariant in
    let number : c.len-k.result ≡ length parts = omega (arith, c.len-k.ensures, c.c.inside.parts.ok.0, ap length same) in
    let inside : c.loop-j.j < length parts - 1 = omega (arith, c.loop-j-test.true, number) in
    record {
      room = part_fits c.args.out.now parts c.loop-j.j c.loop-j.at c.loop-j.out c.index-part.result.now shape inside c.requires c.loop-j.invariant (c.index-part.ensures ∙ ap (λ (ps : List (List ℕ)). get_or ps c.loop-j.j c.index-part.result.now) same);
      fits = omega (arith, whole_fits parts (length c.args.out.now) shape c.requires, c.loop-j.invariant.long);
    }

pub overflow_add-at : goal.overflow_add-at
overflow_add-at c =
    let parts = c.args.c.now in
    let same : c.c.inside.parts.items ≡ parts = cc in
    let shape : HasShape parts = subst HasShape same c.c.invariant in
    let number : c.len-k.result ≡ length parts = omega (arith, c.len-k.ensures, c.c.inside.parts.ok.0, ap length same) in
    let inside : c.loop-j.j < length parts - 1 = omega (arith, c.loop-j-test.true, number) in
    let room = part_fits c.args.out.now parts c.loop-j.j c.loop-j.at c.loop-j.out c.index-part.result.now shape inside c.requires c.loop-j.invariant (c.index-part.ensures ∙ ap (λ (ps : List (List ℕ)). get_or ps c.loop-j.j c.index-part.result.now) same) in
    let small = whole_fits parts (length c.args.out.now) shape c.requires in
    record { fits = omega (arith, room, small, c.loop-j.invariant.long, ap length c.coeffs.ensures) }

pub loop-j-preserved : goal.loop-j-preserved
loop-j-preserved c =
    let parts = c.args.c.now in
    let same : c.c.inside.parts.items ≡ parts = cc in
    let shape : HasShape parts = subst HasShape same c.c.invariant in
    let number : c.len-k.result ≡ length parts = omega (arith, c.len-k.ensures, c.c.inside.parts.ok.0, ap length same) in
    let inside : c.loop-j.j < length parts - 1 = omega (arith, c.loop-j-test.true, number) in
    let part = c.index-part.result.now in
    let is = c.index-part.ensures ∙ ap (λ (ps : List (List ℕ)). get_or ps c.loop-j.j part) same in
    let room = part_fits c.args.out.now parts c.loop-j.j c.loop-j.at c.loop-j.out part shape inside c.requires c.loop-j.invariant is in
    HasExtracted_more c.args.out.now parts c.loop-j.j c.loop-j.at c.loop-j.out part c.coeffs.result.now c.extract_part.new.out shape (omega arith) c.loop-j.invariant room is
    (c.coeffs.ensures ∙ is ∙ ap (get_or parts c.loop-j.j) (sym c.coeffs.ensures)) c.extract_part.ensures

pub first-requires : goal.first-requires
first-requires c =
    let parts = c.args.c.now in
    let same : c.c.inside.parts.items ≡ parts = cc in
    let shape : HasShape parts = subst HasShape same c.c.invariant in
    let number : c.len-k.result ≡ length parts = omega (arith, c.len-k.ensures, c.c.inside.parts.ok.0, ap length same) in
    some_words parts (c.len-k.result - 1) c.index-body.result.now shape (omega (arith, number, shape.some)) (c.index-body.ensures ∙ ap (λ (ps : List (List ℕ)). get_or ps (c.len-k.result - 1) c.index-body.result.now) same)

pub set-requires : goal.set-requires
set-requires c =
    let parts = c.args.c.now in
    let same : c.c.inside.parts.items ≡ parts = cc in
    let number : c.len-k.result ≡ length parts = omega (arith, c.len-k.ensures, c.c.inside.parts.ok.0, ap length same) in
    let ended : c.loop-j.j ≡ length parts - 1 = omega (arith, number, c.loop-j-test.false, c.loop-j.auto.j-end) in
    body_inside c.args.out.now parts c.loop-j.j c.loop-j.at c.loop-j.out ended c.requires c.loop-j.invariant

pub returns : goal.returns
returns c =
    let parts = c.args.c.now in
    let same : c.c.inside.parts.items ≡ parts = cc in
    let shape : HasShape parts = subst HasShape same c.c.invariant in
    let number : c.len-k.result ≡ length parts = omega (arith, c.len-k.ensures, c.c.inside.parts.ok.0, ap length same) in
    let ended : c.loop-j.j ≡ length parts - 1 = omega (arith, number, c.loop-j-test.false, c.loop-j.auto.j-end) in
    let here : c.loop-j.j ≡ c.len-k.result - 1 = omega (arith, number, ended) in
    let body = c.index-body.result.now in
    HasExtracted_all c.args.out.now parts c.loop-j.j c.loop-j.at c.first.result c.loop-j.out c.set.new.self body shape ended c.requires c.loop-j.invariant
    (c.index-body.ensures ∙ ap (λ (ps : List (List ℕ)). get_or ps (c.len-k.result - 1) body) same ∙ ap (λ k. get_or parts k body) (sym here)) c.first.ensures c.set.ensures
