-- The words of the command line: which of them are a command of the table.
use Rattle.std.specs.Prelude.{List, [], ◌∷◌, Option, Some, None, codes, if◌then◌else◌}
use Rattle.std.specs.Str.{bytes_eq}
use Rattle.port_store.specs.Files.{Bytes}
use Rattle.command_forms.specs.Names.{are_distinct}
use Rattle.key_commands.specs.Words.{KeygenWords, keygen_files, EncryptWords, encrypt_files, DecryptWords, decrypt_files}
use Rattle.run_command.specs.Words.{RunWords, run_files}
use Rattle.program_commands.specs.Words.{CompileWords, compile_files, ClearWords, clear_files}
use Rattle.fhec_cmd.specs.Seed.{seed_of}

-- a command line: none of the table of commands, or one of them
pub data Request : Type 0 where
  faulty : Request
  compile : CompileWords → Request
  check : CompileWords → Request
  clear : ClearWords → Request
  keygen : KeygenWords → Request
  encrypt : EncryptWords → Request
  run : RunWords → Request
  decrypt : DecryptWords → Request

-- the words after `compile`: PROGRAM TABLE CIRCUIT CERT
abbrev pub compile_of : List Bytes → Request
compile_of (program ∷ table ∷ circuit ∷ cert ∷ []) =
    let words : CompileWords = record { program = program; table = table; circuit = circuit; cert = cert } in
    if are_distinct (compile_files words) then compile words else faulty
compile_of _ = faulty

-- the words after `check`: PROGRAM TABLE CIRCUIT CERT
abbrev pub check_of : List Bytes → Request
check_of (program ∷ table ∷ circuit ∷ cert ∷ []) =
    let words : CompileWords = record { program = program; table = table; circuit = circuit; cert = cert } in
    if are_distinct (compile_files words) then check words else faulty
check_of _ = faulty

-- the words after `clear`: PROGRAM VALUES
abbrev pub clear_of : List Bytes → Request
clear_of (program ∷ values ∷ []) =
    let words : ClearWords = record { program = program; values = values } in
    if are_distinct (clear_files words) then clear words else faulty
clear_of _ = faulty

-- `keygen` with a seed
abbrev pub keygen_with : Bytes → Option Bytes → Bytes → Bytes → Request
keygen_with circuit None secret eval = faulty
keygen_with circuit (Some seed) secret eval =
    let words : KeygenWords = record { circuit = circuit; seed = seed; secret = secret; eval = eval } in
    if are_distinct (keygen_files words) then keygen words else faulty

-- the words after `keygen`: CIRCUIT SEED SECRET EVAL
abbrev pub keygen_of : List Bytes → Request
keygen_of (circuit ∷ seed ∷ secret ∷ eval ∷ []) = keygen_with circuit (seed_of seed) secret eval
keygen_of _ = faulty

-- `encrypt` with a seed
abbrev pub encrypt_with : Bytes → Bytes → Option Bytes → Bytes → Bytes → Request
encrypt_with circuit secret None values cipher = faulty
encrypt_with circuit secret (Some seed) values cipher =
    let words : EncryptWords =
    record { circuit = circuit; secret = secret; seed = seed; values = values; cipher = cipher } in
    if are_distinct (encrypt_files words) then encrypt words else faulty

-- the words after `encrypt`: CIRCUIT SECRET SEED VALUES CIPHER
abbrev pub encrypt_of : List Bytes → Request
encrypt_of (circuit ∷ secret ∷ seed ∷ values ∷ cipher ∷ []) = encrypt_with circuit secret (seed_of seed) values cipher
encrypt_of _ = faulty

-- the words after `run`: CIRCUIT EVAL CIPHER OUTPUT
abbrev pub run_of : List Bytes → Request
run_of (circuit ∷ eval ∷ cipher ∷ output ∷ []) =
    let words : RunWords = record { circuit = circuit; eval = eval; cipher = cipher; output = output } in
    if are_distinct (run_files words) then run words else faulty
run_of _ = faulty

-- the words after `decrypt`: SECRET OUTPUT
abbrev pub decrypt_of : List Bytes → Request
decrypt_of (secret ∷ output ∷ []) =
    let words : DecryptWords = record { secret = secret; output = output } in
    if are_distinct (decrypt_files words) then decrypt words else faulty
decrypt_of _ = faulty

-- the command line that the words are
abbrev pub request_of : List Bytes → Request
request_of [] = faulty
request_of (command ∷ words) =
    if bytes_eq command (codes "compile") then compile_of words
    else if bytes_eq command (codes "check") then check_of words
    else if bytes_eq command (codes "clear") then clear_of words
    else if bytes_eq command (codes "keygen") then keygen_of words
    else if bytes_eq command (codes "encrypt") then encrypt_of words
    else if bytes_eq command (codes "run") then run_of words
    else if bytes_eq command (codes "decrypt") then decrypt_of words
    else faulty
