use Rattle.std.proofs.Common.{◌≡◌, ◌+◌, ◌++◌, ℕ, List, drop}
use Rattle.auction_terms.specs.AllFaults.{all_faults}
use Rattle.input_faults.specs.inside.Finding.{FindsMore}
use Rattle.auction_terms.specs.Lines.{bytes_of}
use Rattle.auction_terms.specs.Judged.{Fault as Judged}
use Rattle.input_faults.proofs.FormsFacts.{HasRead}
use Rattle.input_faults.specs.InputFaults.{faults_of_form, faults_of_forms}
use Rattle.input_faults.specs.declared.fault.Fault.{Fault}
use Rattle.input_faults.proofs.reading.take_forms.Given as goal

abbrev pub invariant-loop-place : goal.invariant-loop-place
invariant-loop-place l = (so_far : List (Judged Fault)) × (accepted : List (List ℕ))
    × (faults_of_forms l.rules (bytes_of l.texts) ≡ so_far ++ all_faults (λ number before text. faults_of_form l.rules number text)
    (l.place + 1) accepted (bytes_of (drop l.place l.texts)))
    × FindsMore l.initial.faults l.faults so_far
    × HasRead l.all_read l.rules l.texts l.numbers l.place (record { calls = l.calls; known = l.known })
