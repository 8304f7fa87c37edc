-- A store in memory.
use Rattle.std.specs.Prelude.{ℕ, Bool, ◌&&◌, if◌then◌else◌, List, [], ◌++◌, length, take, drop, min, ◌-◌, Option, is_some, is_ok, Result, Ok, Err, refl}
use Rattle.std.specs.Option.{option_map_or}
use Rattle.std.specs.Coded.{Coded, code_by, coded×, coded_list, coded_ℕ}
use Rattle.std.specs.FinMap as map
use Rattle.port_store.specs.Files.{Bytes, Files}
use Rattle.port_store.specs.Listed.{one_more, kept_of, taken_of}
use Rattle.port_store.specs.declared.fault.PortFault.{PortFault}
use Rattle.port_store.specs.declared.fault.PortFault.TheVariants as fault

-- the state of a store in memory: its files, how many calls there were, which calls fail and how many bytes each keeps,
-- and the two counts of faults
pub record Memory : Type 0 where
  pub files : Files
  pub calls : ℕ
  pub failures : List (ℕ × ℕ)
  pub read_faults : ℕ
  pub write_faults : ℕ

-- as its fields in a row
abbrev pub memory_code : Coded Memory
memory_code =
    code_by (Files × (ℕ × (List (ℕ × ℕ) × (ℕ × ℕ))))
    (coded× (map.code (coded_list coded_ℕ) (coded_list coded_ℕ))
    (coded× coded_ℕ (coded× (coded_list (coded× coded_ℕ coded_ℕ)) (coded× coded_ℕ coded_ℕ))))
    (λ m. (m.files, (m.calls, (m.failures, (m.read_faults, m.write_faults)))))
    (λ p. record { files = p.0; calls = p.1.0; failures = p.1.1.0; read_faults = p.1.1.1.0; write_faults = p.1.1.1.1 })
    (λ _. refl)

-- a store with no files, no calls and no failures
abbrev pub no_files : Memory
no_files = record { files = map.empty; calls = 0; failures = []; read_faults = 0; write_faults = 0 }

-- how many bytes the call that comes next keeps, where it is listed to fail
abbrev pub listed_now : Memory → Option ℕ
listed_now memory = kept_of memory.failures memory.calls

-- the next call, on a file of this name, is counted as a fault: it is listed, and the file is there
abbrev pub is_fault : Memory → Bytes → Bool
is_fault memory name = is_some (listed_now memory) && map.contains_key memory.files name

-- what a call on a file that has to be there answers while memory lasts: it fails where the file is missing or the call
-- is listed
abbrev pub file_answer : {A : Type 0} → Memory → Bytes → (Bytes → A) → Result A PortFault
file_answer memory name value = option_map_or
    (λ bytes. if is_some (listed_now memory) then Err fault.Failed else Ok (value bytes))
    (map.get memory.files name) (Err fault.Failed)

-- after a call that reads a file of this name
abbrev pub after_read : Memory → Bytes → Memory
after_read memory name = record memory {
  calls = one_more memory.calls;
  read_faults = if is_fault memory name then one_more memory.read_faults else memory.read_faults;
}

-- how many bytes are there from a place on, at most as many as there is room for
abbrev pub count_from : ℕ → ℕ → Bytes → ℕ
count_from at room bytes = min room (length bytes - at)

-- the buffer after a read that fills its front with the bytes from a place on
abbrev pub filled_from : ℕ → Bytes → Bytes → Bytes
filled_from at buffer bytes = take (length buffer) (drop at bytes) ++ drop (count_from at (length buffer) bytes) buffer

-- the buffer after a call that reads at a place: as it was where the call fails
abbrev pub buffer_after : Memory → Bytes → ℕ → Bytes → Bytes
buffer_after memory name at buffer = option_map_or
    (λ bytes. if is_some (listed_now memory) then buffer else filled_from at buffer bytes)
    (map.get memory.files name) buffer

-- what a call that makes a file answers while memory lasts
abbrev pub create_answer : Memory → Result Unit PortFault
create_answer memory = if is_some (listed_now memory) then Err fault.Failed else Ok tt

-- after a call that makes a file, or empties it
abbrev pub after_create : Memory → Bytes → Result Unit PortFault → Memory
after_create memory name result = record memory {
  calls = one_more memory.calls;
  write_faults = if is_some (listed_now memory) then one_more memory.write_faults else memory.write_faults;
  files = if is_ok result then map.insert memory.files name [] else memory.files;
}

-- the files with a piece at the end of this one; one that is missing stays so
abbrev pub extended : Files → Bytes → Bytes → Files
extended files name piece = option_map_or (λ bytes. map.insert files name (bytes ++ piece)) (map.get files name) files

-- after a call that adds a piece at the end of a file
abbrev pub after_append : Memory → Bytes → Bytes → Result Unit PortFault → Memory
after_append memory name piece result = record memory {
  calls = one_more memory.calls;
  write_faults = if is_fault memory name then one_more memory.write_faults else memory.write_faults;
  files = extended memory.files name (taken_of (listed_now memory) result piece);
}
