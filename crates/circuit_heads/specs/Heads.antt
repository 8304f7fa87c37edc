-- What files of ciphertexts say of the inputs of a circuit, and of its outputs.
use Rattle.std.specs.Prelude.{List, length, filter_map, All, Option, Some, None, ℤ}
use Rattle.forms.specs.Ranges.{IsNumberRange}
use Rattle.fhe_params.specs.Params.{big_dimension}
use Rattle.tfhe_level.specs.declared.level.TfheOp.{TfheOp}
use Rattle.tfhe_level.specs.declared.level.TfheOp.TheVariants.{Out}
use Rattle.tfhe_level.specs.declared.shape.Circuit.{Circuit}
use Rattle.tfhe_level.specs.Nodes.{nodes_of}
use Rattle.tfhe_level.specs.Laws.{input_ranges}
use Rattle.sealed_files.specs.Kinds.{IsWithin}
use Rattle.sealed_files.specs.Kinds as fields
use Rattle.circuit_digest.specs.ParamsDigest.{params_digest}
use Rattle.cipher_files.specs.declared.head.CipherHead.{CipherHead}

-- the range of an out
abbrev pub out_range : TfheOp → Option (ℤ × ℤ)
out_range (Out source lo hi) = Some (lo, hi)
out_range _ = None

-- the ranges of the outs, in order
abbrev pub out_ranges : List TfheOp → List (ℤ × ℤ)
out_ranges operations = filter_map out_range operations

-- the digest of a circuit's parameters, its big dimension and its width, with these ranges
abbrev pub head_with : Circuit → List (ℤ × ℤ) → CipherHead
head_with circuit ranges = record {
  digest = params_digest circuit.params;
  dim = big_dimension circuit.params;
  width = circuit.shape.width;
  ranges = ranges;
}

-- what is said of the inputs
abbrev pub input_head : Circuit → CipherHead
input_head circuit = head_with circuit (input_ranges (nodes_of circuit.shape))

-- what is said of the outputs
abbrev pub output_head : Circuit → CipherHead
output_head circuit = head_with circuit (out_ranges (nodes_of circuit.shape))

-- such a file keeps its limits: its dimension, its width, the number of its ciphertexts and their ranges
pub record HasHeadLimits (head : CipherHead) : Type 0 where
  pub dim : IsWithin fields.big_dimension head.dim
  pub width : IsWithin fields.width head.width
  pub number : IsWithin fields.ciphertexts (length head.ranges)
  pub ranges : All (λ range. IsNumberRange range.0 range.1) head.ranges
