-- The reading agrees with what is wrong. Assumes nothing.
use Rattle.std.proofs.Common.{ℕ, List, sym, ap, ◌∙◌, subst}
use Rattle.faults.proofs.Complete.{first}
use Rattle.faults.proofs.Outcomes.{same_err}
use Rattle.faults.proofs.Sound.{Told, told}
use Rattle.faults.specs.Exact.{FaultsExactly}
use Rattle.sheet.proofs.Agrees.{reads_exactly}
use Rattle.sheet.specs.Form.{Entry}
use Rattle.sheet.specs.Lines.{Stopped}

pub faults_exactly : (bytes : List ℕ) → FaultsExactly bytes
faults_exactly bytes = record {
  faulty = λ ts e p. subst (Told bytes) p (told bytes);
  first = first bytes;
  one_fault = λ ts us d e h k. ap (λ (s : Stopped). s.fault) (same_err {X = List Entry} (record { tasks = ts; fault = d }) (record { tasks = us; fault = e }) (sym (first bytes ts d h) ∙ first bytes us e k));
  no_form = λ ts us e h k. (reads_exactly bytes).refused (record { tasks = ts; fault = e }) (first bytes ts e h) us k;
}
