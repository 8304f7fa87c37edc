-- A sink in memory.
use Rattle.std.specs.Prelude.{ℕ, if◌then◌else◌, List, [], ◌++◌, Option, is_some, Result, Ok, Err, refl}
use Rattle.std.specs.Coded.{Coded, code_by, coded×, coded_list, coded_ℕ}
use Rattle.port_store.specs.Files.{Bytes}
use Rattle.port_store.specs.Listed.{one_more, kept_of, taken_of}
use Rattle.port_store.specs.declared.fault.PortFault.{PortFault}
use Rattle.port_store.specs.declared.fault.PortFault.TheVariants as fault

-- the state of a sink in memory: the bytes it has taken, how many calls there were, which calls fail and how many bytes
-- each keeps, and the count of faults
pub record Collected : Type 0 where
  pub taken : Bytes
  pub calls : ℕ
  pub failures : List (ℕ × ℕ)
  pub put_faults : ℕ

-- as its fields in a row
abbrev pub collected_code : Coded Collected
collected_code =
    code_by (Bytes × (ℕ × (List (ℕ × ℕ) × ℕ)))
    (coded× (coded_list coded_ℕ) (coded× coded_ℕ (coded× (coded_list (coded× coded_ℕ coded_ℕ)) coded_ℕ)))
    (λ c. (c.taken, (c.calls, (c.failures, c.put_faults))))
    (λ p. record { taken = p.0; calls = p.1.0; failures = p.1.1.0; put_faults = p.1.1.1 })
    (λ _. refl)

-- a sink with no bytes, no calls and no failures
abbrev pub nothing_taken : Collected
nothing_taken = record { taken = []; calls = 0; failures = []; put_faults = 0 }

-- how many bytes the call that comes next keeps, where it is listed to fail
abbrev pub kept_now : Collected → Option ℕ
kept_now collected = kept_of collected.failures collected.calls

-- what a call answers while memory lasts
abbrev pub put_answer : Collected → Result Unit PortFault
put_answer collected = if is_some (kept_now collected) then Err fault.Failed else Ok tt

-- after a call with this piece
abbrev pub after_put : Collected → Bytes → Result Unit PortFault → Collected
after_put collected piece result = record collected {
  calls = one_more collected.calls;
  put_faults = if is_some (kept_now collected) then one_more collected.put_faults else collected.put_faults;
  taken = collected.taken ++ taken_of (kept_now collected) result piece;
}
