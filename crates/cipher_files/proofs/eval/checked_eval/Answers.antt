use Rattle.std.proofs.Common.{◌≡◌, ◌+◌, length, arith}
use Rattle.fhe_params.specs.Cost.{key_words_of}
use Rattle.sealed_files.specs.declared.kinds.FileKind.TheVariants.{Eval}
use Rattle.sealed_files.specs.Kinds.{file_size}
use Rattle.sealed_files.specs.FrameReading.{frame_in}
use Rattle.cipher_files.proofs.Pieces.{SealedLaws}
use Rattle.cipher_files.proofs.EvalTexts.{whole_is}
use Rattle.cipher_files.proofs.eval.checked_eval.Goals as goal

pub eval_fits-requires : goal.eval_fits-requires
eval_fits-requires c = omega (arith, c.laws.ensures.reading.long Eval c.args.bytes.now (frame_in Eval c.args.bytes.now) c.in_ok-check_file.ensures)

pub switch_in-requires-clause-room : goal.switch_in-requires-clause-room
switch_in-requires-clause-room c =
    let sealed : SealedLaws = record { frames = c.laws.ensures.frames; reading = c.laws.ensures.reading } in
    let whole : length c.args.bytes.now ≡ file_size (5 + key_words_of c.args.params.now) = whole_is sealed c.laws.ensures.matching c.args.digest.now c.args.params.now c.args.bytes.now (frame_in Eval c.args.bytes.now) c.in_ok-check_file.ensures c.in_ok-eval_fits.ensures in
    omega (arith, whole)

pub boot_in-requires-clause-room : goal.boot_in-requires-clause-room
boot_in-requires-clause-room c =
    let sealed : SealedLaws = record { frames = c.laws.ensures.frames; reading = c.laws.ensures.reading } in
    let whole : length c.args.bytes.now ≡ file_size (5 + key_words_of c.args.params.now) = whole_is sealed c.laws.ensures.matching c.args.digest.now c.args.params.now c.args.bytes.now (frame_in Eval c.args.bytes.now) c.in_ok-check_file.ensures c.in_ok-eval_fits.ensures in
    omega (arith, whole)
