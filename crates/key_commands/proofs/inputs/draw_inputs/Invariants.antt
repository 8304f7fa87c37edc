use Rattle.std.proofs.Common.{◌≡◌, ◌+◌, ◌*◌, length, map, All}
use Rattle.std.specs.List.{range_with_len}
use Rattle.seed_stream.specs.Draws.{stream_key, stream_at}
use Rattle.key_gen.specs.Seeds.{input_label}
use Rattle.key_commands.specs.Encrypt.{drawn_input}
use Rattle.key_commands.proofs.inputs.draw_inputs.Given as goal

-- the inputs so far, and the place of the stream behind their draws
abbrev pub invariant-loop-i : goal.invariant-loop-i
invariant-loop-i l =
    let key = stream_key l.seed input_label in
    record {
      words : l.list.items ≡ map (drawn_input key l.key l.width l.bound l.values) (range_with_len 0 l.i);
      long : All (λ words. length words ≡ length l.key + 1) l.list.items;
      stream : l.stream ≡ stream_at key (l.i * (length l.key + 1));
    }
