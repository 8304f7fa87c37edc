use Rattle.std.proofs.Common.{◌≡◌, ℕ, ◌+◌, ◌*◌, ◌%◌, ◌^◌, List, [], ◌∷◌, ◌++◌, length, map, sym, ap, arith, ◌∙◌}
use Rattle.std.specs.List.{range_with_len}
use Rattle.std.proofs.lemmas.List.Elements.{All-push}
use Rattle.std.proofs.lemmas.List.FromFn.{map-range_with_len_more}
use Rattle.forms.specs.Forms.{number_at}
use Rattle.lwe_core.specs.Decoding.{encoded}
use Rattle.seed_stream.specs.Draws.{KeyStream, stream_key, stream_at}
use Rattle.key_gen.specs.Seeds.{drawn_row, input_label}
use Rattle.key_commands.specs.Encrypt.{drawn_input}
use Rattle.key_commands.proofs.InputLemmas.{place_small}
use Rattle.key_commands.proofs.inputs.draw_inputs.Goals as goal

pub loop-i-preserved : goal.loop-i-preserved
loop-i-preserved c =
    let key = stream_key c.args.seed.now input_label in
    let big = c.args.key.now in
    let i = c.loop-i.i in
    let n = length big in
    let width = c.args.width in
    let bound = c.args.bound in
    let values = c.args.values.now in
    let f : ℕ → List ℕ = drawn_input key big width bound values in
    let place : (i * (n + 1)) % 2 ^ 67 ≡ i * (n + 1) = place_small i n (omega (arith, c.loop-i-test.true, c.requires.few)) c.requires.dim in
    let at : c.loop-i.stream.place ≡ i * (n + 1) = ap (λ (s : KeyStream). s.place) c.loop-i.invariant.stream ∙ place in
    let message : c.message_of-message.result ≡ encoded width (number_at values i) = c.message_of-message.ensures in
    let words : c.encrypt_into.new.c ≡ f i =
    c.encrypt_into.ensures.words ∙ ap (λ (s : KeyStream). drawn_row s.key c.loop-i.stream.place big c.message_of-message.result bound) c.loop-i.invariant.stream
    ∙ ap (λ (p : ℕ). drawn_row key p big c.message_of-message.result bound) at ∙ ap (λ (m : ℕ). drawn_row key (i * (n + 1)) big m bound) message in
    record {
      words =
          c.in_ok-push.ensures.items ∙ ap (λ (rows : List (List ℕ)). rows ++ c.encrypt_into.new.c ∷ []) c.loop-i.invariant.words
          ∙ ap (λ (row : List ℕ). map f (range_with_len 0 i) ++ row ∷ []) words ∙ sym (map-range_with_len_more f 0 i i (omega arith));
      long = rw c.in_ok-push.ensures.items (All-push (λ (words : List ℕ). length words ≡ n + 1) c.loop-i.list.items c.encrypt_into.new.c c.loop-i.invariant.long c.encrypt_into.ensures.fits);
      stream =
          c.encrypt_into.ensures.stream ∙ ap (λ (s : KeyStream). stream_at s.key (c.loop-i.stream.place + (n + 1))) c.loop-i.invariant.stream
          ∙ ap (λ (p : ℕ). stream_at key (p + (n + 1))) at ∙ ap (stream_at key) (omega arith);
    }
