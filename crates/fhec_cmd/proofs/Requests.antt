-- The files of a command have distinct names.
use Rattle.std.proofs.Common.{◌≡◌, Bool, true, false, cond, List, [], ◌∷◌, Option, Some, None, refl, sym, subst}
use Rattle.std.specs.Prelude.{codes}
use Rattle.std.specs.Str.{bytes_eq}
use Rattle.port_store.specs.Files.{Bytes}
use Rattle.command_forms.specs.Names.{are_distinct}
use Rattle.key_commands.specs.Words.{KeygenWords, keygen_files, EncryptWords, encrypt_files, DecryptWords, decrypt_files}
use Rattle.run_command.specs.Words.{RunWords, run_files}
use Rattle.program_commands.specs.Words.{CompileWords, compile_files, ClearWords, clear_files}
use Rattle.fhec_cmd.specs.Seed.{seed_of}
use Rattle.fhec_cmd.specs.CommandLine.{Request, faulty, compile, check, clear, keygen, encrypt, run, decrypt, compile_of, check_of, clear_of, keygen_with, keygen_of, encrypt_with, encrypt_of, run_of, decrypt_of, request_of}

-- the names of a request's files
pub AreApart : Request → Type 0
AreApart faulty = Unit {0}
AreApart (compile words) = are_distinct (compile_files words) ≡ true
AreApart (check words) = are_distinct (compile_files words) ≡ true
AreApart (clear words) = are_distinct (clear_files words) ≡ true
AreApart (keygen words) = are_distinct (keygen_files words) ≡ true
AreApart (encrypt words) = are_distinct (encrypt_files words) ≡ true
AreApart (run words) = are_distinct (run_files words) ≡ true
AreApart (decrypt words) = are_distinct (decrypt_files words) ≡ true

checked : (b : Bool) (request : Request) → (b ≡ true → AreApart request) → AreApart (cond b request faulty)
unfolding AreApart
checked true request apart = apart refl
checked false request apart = tt

either : (b : Bool) (one other : Request) → AreApart one → AreApart other → AreApart (cond b one other)
either true one other first last = first
either false one other first last = last

compile_apart : (words : List Bytes) → AreApart (compile_of words)
unfolding AreApart
compile_apart [] = tt
compile_apart (a ∷ []) = tt
compile_apart (a ∷ b ∷ []) = tt
compile_apart (a ∷ b ∷ c ∷ []) = tt
compile_apart (program ∷ table ∷ circuit ∷ cert ∷ []) =
    let words : CompileWords = record { program = program; table = table; circuit = circuit; cert = cert } in
    checked (are_distinct (compile_files words)) (compile words) (λ e. e)
compile_apart (a ∷ b ∷ c ∷ d ∷ e ∷ more) = tt

check_apart : (words : List Bytes) → AreApart (check_of words)
unfolding AreApart
check_apart [] = tt
check_apart (a ∷ []) = tt
check_apart (a ∷ b ∷ []) = tt
check_apart (a ∷ b ∷ c ∷ []) = tt
check_apart (program ∷ table ∷ circuit ∷ cert ∷ []) =
    let words : CompileWords = record { program = program; table = table; circuit = circuit; cert = cert } in
    checked (are_distinct (compile_files words)) (check words) (λ e. e)
check_apart (a ∷ b ∷ c ∷ d ∷ e ∷ more) = tt

clear_apart : (words : List Bytes) → AreApart (clear_of words)
unfolding AreApart
clear_apart [] = tt
clear_apart (a ∷ []) = tt
clear_apart (program ∷ values ∷ []) =
    let words : ClearWords = record { program = program; values = values } in
    checked (are_distinct (clear_files words)) (clear words) (λ e. e)
clear_apart (a ∷ b ∷ c ∷ more) = tt

keygen_seed : (circuit : Bytes) (seed : Option Bytes) (secret eval : Bytes) → AreApart (keygen_with circuit seed secret eval)
unfolding AreApart
keygen_seed circuit None secret eval = tt
keygen_seed circuit (Some seed) secret eval =
    let words : KeygenWords = record { circuit = circuit; seed = seed; secret = secret; eval = eval } in
    checked (are_distinct (keygen_files words)) (keygen words) (λ e. e)

keygen_apart : (words : List Bytes) → AreApart (keygen_of words)
unfolding AreApart
keygen_apart [] = tt
keygen_apart (a ∷ []) = tt
keygen_apart (a ∷ b ∷ []) = tt
keygen_apart (a ∷ b ∷ c ∷ []) = tt
keygen_apart (circuit ∷ seed ∷ secret ∷ eval ∷ []) = keygen_seed circuit (seed_of seed) secret eval
keygen_apart (a ∷ b ∷ c ∷ d ∷ e ∷ more) = tt

encrypt_seed : (circuit secret : Bytes) (seed : Option Bytes) (values cipher : Bytes) → AreApart (encrypt_with circuit secret seed values cipher)
unfolding AreApart
encrypt_seed circuit secret None values cipher = tt
encrypt_seed circuit secret (Some seed) values cipher =
    let words : EncryptWords = record { circuit = circuit; secret = secret; seed = seed; values = values; cipher = cipher } in
    checked (are_distinct (encrypt_files words)) (encrypt words) (λ e. e)

encrypt_apart : (words : List Bytes) → AreApart (encrypt_of words)
unfolding AreApart
encrypt_apart [] = tt
encrypt_apart (a ∷ []) = tt
encrypt_apart (a ∷ b ∷ []) = tt
encrypt_apart (a ∷ b ∷ c ∷ []) = tt
encrypt_apart (a ∷ b ∷ c ∷ d ∷ []) = tt
encrypt_apart (circuit ∷ secret ∷ seed ∷ values ∷ cipher ∷ []) = encrypt_seed circuit secret (seed_of seed) values cipher
encrypt_apart (a ∷ b ∷ c ∷ d ∷ e ∷ f ∷ more) = tt

run_apart : (words : List Bytes) → AreApart (run_of words)
unfolding AreApart
run_apart [] = tt
run_apart (a ∷ []) = tt
run_apart (a ∷ b ∷ []) = tt
run_apart (a ∷ b ∷ c ∷ []) = tt
run_apart (circuit ∷ eval ∷ cipher ∷ output ∷ []) =
    let words : RunWords = record { circuit = circuit; eval = eval; cipher = cipher; output = output } in
    checked (are_distinct (run_files words)) (run words) (λ e. e)
run_apart (a ∷ b ∷ c ∷ d ∷ e ∷ more) = tt

decrypt_apart : (words : List Bytes) → AreApart (decrypt_of words)
unfolding AreApart
decrypt_apart [] = tt
decrypt_apart (a ∷ []) = tt
decrypt_apart (secret ∷ output ∷ []) =
    let words : DecryptWords = record { secret = secret; output = output } in
    checked (are_distinct (decrypt_files words)) (decrypt words) (λ e. e)
decrypt_apart (a ∷ b ∷ c ∷ more) = tt

pub apart : (words : List Bytes) → AreApart (request_of words)
unfolding AreApart
apart [] = tt
apart (command ∷ words) =
    either (bytes_eq command (codes "compile")) (compile_of words) _ (compile_apart words)
    (either (bytes_eq command (codes "check")) (check_of words) _ (check_apart words)
    (either (bytes_eq command (codes "clear")) (clear_of words) _ (clear_apart words)
    (either (bytes_eq command (codes "keygen")) (keygen_of words) _ (keygen_apart words)
    (either (bytes_eq command (codes "encrypt")) (encrypt_of words) _ (encrypt_apart words)
    (either (bytes_eq command (codes "run")) (run_of words) _ (run_apart words)
    (either (bytes_eq command (codes "decrypt")) (decrypt_of words) faulty (decrypt_apart words) tt))))))

-- what each command asks of its names
pub compile_distinct : (words : CompileWords) (request : Request) → compile words ≡ request → AreApart request → are_distinct (compile_files words) ≡ true
unfolding AreApart
compile_distinct words request same given = subst AreApart (sym same) given

pub check_distinct : (words : CompileWords) (request : Request) → check words ≡ request → AreApart request → are_distinct (compile_files words) ≡ true
unfolding AreApart
check_distinct words request same given = subst AreApart (sym same) given

pub clear_distinct : (words : ClearWords) (request : Request) → clear words ≡ request → AreApart request → are_distinct (clear_files words) ≡ true
unfolding AreApart
clear_distinct words request same given = subst AreApart (sym same) given

pub keygen_distinct : (words : KeygenWords) (request : Request) → keygen words ≡ request → AreApart request → are_distinct (keygen_files words) ≡ true
unfolding AreApart
keygen_distinct words request same given = subst AreApart (sym same) given

pub encrypt_distinct : (words : EncryptWords) (request : Request) → encrypt words ≡ request → AreApart request → are_distinct (encrypt_files words) ≡ true
unfolding AreApart
encrypt_distinct words request same given = subst AreApart (sym same) given

pub run_distinct : (words : RunWords) (request : Request) → run words ≡ request → AreApart request → are_distinct (run_files words) ≡ true
unfolding AreApart
run_distinct words request same given = subst AreApart (sym same) given

pub decrypt_distinct : (words : DecryptWords) (request : Request) → decrypt words ≡ request → AreApart request → are_distinct (decrypt_files words) ≡ true
unfolding AreApart
decrypt_distinct words request same given = subst AreApart (sym same) given
