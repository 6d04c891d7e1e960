-- What a run leaves.
use Rattle.std.proofs.Common.{◌≡◌, ◌≢◌, ◌⊎◌, ◌∙◌, ◌<◌, ◌≤◌, ℕ, Bool, true, false, List, [], Option, None, Some, ap, arith, inl, inr, length, refl, subst, suc, sym, zero, IsErr}
use Rattle.std.specs.Prelude.{Result, if◌then◌else◌}
use Rattle.std.specs.Option.{option_map}
use Rattle.auction_input.specs.FileTexts.{Shelf, is_standard_output}
use Rattle.auction_input.specs.Input.{Input}
use Rattle.clap.specs.declared.error.kind.ErrorKind.TheVariants as kind
use Rattle.clap.specs.declared.error.kind.ErrorKind.{ErrorKind}
use Rattle.auction_input.specs.declared.request.ExplainOptions.{ExplainOptions}
use Rattle.auction_input.specs.declared.request.Request.TheVariants as request
use Rattle.auction_input.specs.Requests.{target_of}
use Rattle.auction_input.specs.declared.request.Request.{Request}
use Rattle.answers.specs.Answer.{answer}
use Rattle.answers.specs.Exact.{Writes}
use Rattle.answers.specs.ExplainedFor.{IsRefusedBy}
use Rattle.answers.proofs.ExplainedForFacts.{refused-by, taken-for}
use Rattle.auction_input.specs.PartCounts.{parsed_taken}
use Rattle.answers.specs.Asked.{Asked, CommandLine, by_fault, for_answer, for_nothing}
use Rattle.auction_input.specs.Line.{Puts, line}
use Rattle.auction_input.specs.declared.refusal.Refusal.{Refusal}
use Rattle.auction_input.specs.declared.files.FileFault.{FileFault}
use Rattle.auction_input.specs.declared.files.FileRefusal.{FileRefusal}
use Rattle.answers.specs.FileLines.{refusal_line}
use Rattle.answers.specs.Outside.{Outside, outside_of}
use Rattle.byte_sinks.specs.Sinks.{Outlet}
use Rattle.answers.specs.Runs.{AsksAnswer, HasExplained, IsRefused, HasLooked, IsRun, IsShown, IsUndone, Reads, begun, by_lines}
use Rattle.answers.specs.Runs.{by_look, by_memory, by_output, by_request, by_showing, by_text}
use Rattle.answers.specs.inside.Runs.{HasExplainedInput, HasShown, IsLeftUnanswered, IsReported, IsReportedSo, IsUnprepared, IsUnreported}

-- every request but `explain` asks for an answer
pub asks-answer : (asked : Request) (input : Input) → ((options : ExplainOptions) → asked ≢ request.Explain options) → AsksAnswer asked input
asks-answer (request.Explain options) input others = absurd (others options refl)
asks-answer asked input others = tt

-- the command for which faults are reported refuses the input, too
refused-as : (options : ExplainOptions) (asked : Request) (input : Input) → asked ≡ request.Explain options → IsErr (parsed_taken asked input)
    → IsRefusedBy (target_of asked) input
refused-as options asked input asks wrong =
    subst (λ (a : Request). IsErr (parsed_taken a input) → IsRefusedBy (target_of a) input) (sym asks) (refused-by options input) wrong

-- a sink that is sent to a file has the count of failures that it had
begun-failures : (name : Option (List ℕ)) (sink : Outlet) → (begun name sink).failures ≡ sink.failures
begun-failures None sink = refl
begun-failures (Some name) sink = by (is_standard_output name)
  where
    by : (standard : Bool)
        → (if standard then sink else record { place = Some name; taken = option_map (λ (bytes : List ℕ). []) sink.taken; failures = sink.failures }).failures
        ≡ sink.failures
    by true = refl
    by false = refl

module _ (shelf : Shelf) where
  -- a run of what is asked for in other words
  pub run-as : (asked parsed : Asked) (status : ℕ) (before after : Outside) → asked ≡ parsed → IsRun shelf parsed status before after
      → IsRun shelf asked status before after
  run-as asked parsed status before after is run = subst (λ (a : Asked). IsRun shelf a status before after) (sym is) run

  -- a run that is refused, or prints faults
  pub run-refused : (asked : Asked) (before after : Outside)
      → ((parsed : List ℕ) × IsUndone shelf asked before after parsed × Puts parsed before.faults after.faults) ⊎ HasExplained shelf asked before after
      → IsRun shelf asked 1 before after
  run-refused asked before after why = record {
    done = λ zero. absurd (omega (arith, zero));
    quiet = λ zero. absurd (omega (arith, zero));
    succeeded = λ other. absurd (other refl);
    refused = λ one. why;
    unasked = λ two. absurd (omega (arith, two));
    reported = λ two. absurd (omega (arith, two));
  }

  -- a run of a command line that is refused
  pub command-refused : (asked : CommandLine) (before after : Outside) (parsed : List ℕ) → IsRefused shelf asked before after parsed
      → Puts parsed before.faults after.faults
      → IsRun shelf (for_answer asked) 1 before after
  command-refused asked before after parsed why puts = run-refused (for_answer asked) before after (inl (parsed, by_request asked refl why, puts))

  -- files that aren't there to be read or to be written
  pub unprepared-so : (asked : CommandLine) (before after : Outside) (r : FileRefusal) → IsUnprepared shelf before.sendable asked r
      → after.left ≡ before.left → after.output ≡ before.output → IsRefused shelf asked before after (refusal_line asked r)
  unprepared-so asked before after r (inl (named, found)) left output = by_look r named found left output
  unprepared-so asked before after r (inr (name, fault, named, found, looked, is)) left output =
      subst (λ (r : FileRefusal). IsRefused shelf asked before after (refusal_line asked r)) (sym is)
      (by_output name fault named found looked left output)

  module _ (asked : CommandLine) (before after : Outside) (input : Input) (looked : HasLooked shelf asked)
      (read : Reads shelf asked before.left after.left input) where
    abbrev start : Outlet
    start = begun asked.output before.output

    refused-so : (parsed : List ℕ) → IsLeftUnanswered asked.request input start after.output parsed → IsRefused shelf asked before after parsed
    refused-so parsed (r, is, inl (asks, unwritten)) = subst (IsRefused shelf asked before after) (sym is) (by_text looked input read asks unwritten)
    refused-so parsed (r, is, inr (options, asks, cut)) =
        subst (IsRefused shelf asked before after) (sym is) (by_lines options asks looked input read cut)

    explained-so : after.failed_reads ≡ before.failed_reads → HasExplainedInput asked.request input start after.output
        → after.faults ≡ before.faults → HasExplained shelf (for_answer asked) before after
    explained-so reads (options, asks, wrong, sent) quiet = record {
      command = asked;
      options = options;
      input = input;
      asks = refl;
      explains = asks;
      looked = looked;
      read = read;
      faulty = wrong;
      refused = refused-as options asked.request input asks wrong;
      written = sent;
      reads = reads;
      quiet = quiet;
    }

    left-so : IsReportedSo (IsLeftUnanswered asked.request input start after.output) before.faults after.faults
        ⊎ (HasExplainedInput asked.request input start after.output × (after.faults ≡ before.faults))
        → after.failed_reads ≡ before.failed_reads
        → ((parsed : List ℕ) × IsUndone shelf (for_answer asked) before after parsed × Puts parsed before.faults after.faults)
        ⊎ HasExplained shelf (for_answer asked) before after
    left-so (inl (parsed, why, puts)) reads = inl (parsed, by_request asked refl (refused-so parsed why), puts)
    left-so (inr (explained, same)) reads = inr (explained-so reads explained same)

    -- a run whose input was read
    pub run-read : (status : ℕ) → status ≤ 1 → after.failed_reads ≡ before.failed_reads
        → (status ≡ 0 → Writes (answer asked.request input) start after.output)
        → (status ≡ 0 → after.faults ≡ before.faults)
        → (status ≡ 1 → IsReportedSo (IsLeftUnanswered asked.request input start after.output) before.faults after.faults
        ⊎ (HasExplainedInput asked.request input start after.output × (after.faults ≡ before.faults)))
        → IsRun shelf (for_answer asked) status before after
    run-read status most reads written quiet left = record {
      done = λ zero. inl (asked, refl, (looked, (input, read, taken-for asked.request input start after.output (written zero), written zero)));
      quiet = quiet;
      succeeded = λ other. (whole (written (least other)), reads);
      refused = λ one. left-so (left one) reads;
      unasked = λ two. absurd (omega (arith, most, two));
      reported = λ two. absurd (omega (arith, most, two));
    }
      where
        below : (n : ℕ) → n ≤ 1 → n ≢ 1 → n ≡ 0
        below zero small other = refl
        below (suc n) small other = absurd (other (omega (arith, small)))

        least : status ≢ 1 → status ≡ 0
        least other = below status most other

        whole : Writes (answer asked.request input) start after.output → after.output.failures ≡ before.output.failures
        whole (out, is, sent) = sent.failures ∙ begun-failures asked.output before.output

  -- a run whose words have a fault
  module _ (asked parsed : Asked) (k : ErrorKind) (is : asked ≡ parsed) (for : (k ≡ kind.OutOfMemory) ⊎ (parsed ≡ by_fault k)) where
    shown-as : (text : List ℕ) → IsShown (by_fault k) text → IsShown asked text
    shown-as text shown = elim for [
      | inl memory ↦ absurd (subst (λ (x : ErrorKind). IsShown (by_fault x) text) memory shown)
      | inr by ↦ subst (λ (a : Asked). IsShown a text) (sym (is ∙ by)) shown
    ]

    module _ (left : Option (List ℕ)) (reads : ℕ) (sendable sendable' : List ℕ → Option (Result (Unit {0}) FileFault))
        (output output' faults faults' : Outlet) where
      undone-so : (r : Refusal) → IsUnreported (by_fault k) output output' r
          → IsUndone shelf asked (outside_of left reads sendable output faults) (outside_of left reads sendable' output' faults') (line r)
      undone-so r (inl (text, shown, ends)) = by_showing text (shown-as text shown) refl ends
      undone-so r (inr (out, kept)) = subst (λ (x : Refusal). IsUndone shelf asked (outside_of left reads sendable output faults)
          (outside_of left reads sendable' output' faults') (line x)) (sym out) (by_memory refl kept)

      pub run-faulty : (status : ℕ) → status ≤ 2 → (status ≡ 0 → HasShown (by_fault k) output output')
          → (status ≡ 0 → faults' ≡ faults)
          → (status ≡ 1 → IsReported (IsUnreported (by_fault k) output output') faults faults')
          → (status ≡ 2 → (by_fault k ≡ for_nothing) × (k ≢ kind.OutOfMemory) × (output' ≡ output))
          → (status ≡ 2 → (text : List ℕ) × (0 < length text) × Puts text faults faults')
          → IsRun shelf asked status (outside_of left reads sendable output faults) (outside_of left reads sendable' output' faults')
      run-faulty status most shown quiet refused unasked reported = record {
        done = λ zero. (let (text, is-shown, sent) = shown zero in inr (text, shown-as text is-shown, refl, sent));
        quiet = quiet;
        succeeded = λ other. (calm status refl most other, refl);
        refused = λ one. (let (r, why, puts) = refused one in inl (line r, undone-so r why, puts));
        unasked = λ two. (let (none, some, kept) = unasked two in (elim for [ inl memory ↦ absurd (some memory) | inr by ↦ is ∙ by ∙ none ], refl, kept));
        reported = reported;
      }
        where
          calm : (n : ℕ) → status ≡ n → n ≤ 2 → status ≢ 1 → output'.failures ≡ output.failures
          calm zero at small other = (let (text, is-shown, sent) = shown at in sent.failures)
          calm (suc zero) at small other = absurd (other at)
          calm (suc (suc n)) at small other = (let (none, some, kept) = unasked (omega (arith, at, small)) in ap (λ (sink : Outlet). sink.failures) kept)
