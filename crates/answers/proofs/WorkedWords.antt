-- What some words ask for.
use Rattle.std.specs.Prelude.{◌≡◌, [], ◌∷◌, List, None, Some, codes, false, true}
use Rattle.std.proofs.Common.{refl}
use Rattle.clap.specs.Words.{Text}
use Rattle.clap.proofs.OnLiterals.{clap_on_literals}
use Rattle.clap.specs.declared.error.kind.ErrorKind.TheVariants as kind
use Rattle.auction_input.specs.declared.request.Request.TheVariants as request
use Rattle.auction_input.specs.declared.request.Target.TheVariants as target
use Rattle.byte_sinks.specs.declared.json.Format.TheVariants as format
use Rattle.answers.specs.Asked.{asked, faults_of, for_answer, for_help}

abbrev compiled : List Text
compiled = codes "wdp" ∷ codes "compile" ∷ codes "a" ∷ codes "--workers" ∷ codes "4" ∷ codes "-" ∷ codes "-ob" ∷ codes "--" ∷ codes "-c" ∷ []

-- files are kept in order, whatever is between them
files_among_options : asked compiled ≡ for_answer (record {
  request = request.Compile 4;
  last_wins = false;
  files = codes "a" ∷ codes "-" ∷ codes "-c" ∷ [];
  output = Some (codes "b");
})
unfolding clap_on_literals
files_among_options = refl

-- no word at all
nothing_named : asked (codes "wdp" ∷ []) ≡ for_answer (record { request = request.Text; last_wins = false; files = []; output = None })
unfolding clap_on_literals
nothing_named = refl

-- of forms in several files the last ones count
of_many_files : asked (codes "wdp" ∷ codes "report" ∷ codes "a" ∷ codes "--last-wins" ∷ codes "b" ∷ [])
    ≡ for_answer (record { request = request.Report 1; last_wins = true; files = codes "a" ∷ codes "b" ∷ []; output = None })
unfolding clap_on_literals
of_many_files = refl

-- where forms are read
of_no_form : faults_of (codes "wdp" ∷ codes "check" ∷ codes "--last-wins" ∷ []) ≡ kind.UnknownArgument ∷ []
unfolding clap_on_literals
of_no_form = refl

-- `check` reads one text
one_text : asked (codes "wdp" ∷ codes "check" ∷ codes "a" ∷ codes "--output=b" ∷ [])
    ≡ for_answer (record { request = request.Check; last_wins = false; files = codes "a" ∷ []; output = Some (codes "b") })
unfolding clap_on_literals
one_text = refl

two_texts : faults_of (codes "wdp" ∷ codes "check" ∷ codes "a" ∷ codes "b" ∷ []) ≡ kind.UnknownArgument ∷ []
unfolding clap_on_literals
two_texts = refl

-- one file is written
two_outputs : faults_of (codes "wdp" ∷ codes "text" ∷ codes "-o" ∷ codes "a" ∷ codes "-o" ∷ codes "b" ∷ []) ≡ kind.ArgumentConflict ∷ []
unfolding clap_on_literals
two_outputs = refl

no_output : faults_of (codes "wdp" ∷ codes "text" ∷ codes "-o" ∷ []) ≡ kind.InvalidValue ∷ []
unfolding clap_on_literals
no_output = refl

-- a file wants a command
no_command : faults_of (codes "wdp" ∷ codes "a" ∷ []) ≡ kind.UnknownArgument ∷ kind.InvalidSubcommand ∷ []
unfolding clap_on_literals
no_command = refl

help_with_files : asked (codes "wdp" ∷ codes "help" ∷ codes "text" ∷ codes "a" ∷ []) ≡ for_help
unfolding clap_on_literals
help_with_files = refl

-- what a command wants is reported by its name
explained_for_a_report : asked (codes "wdp" ∷ codes "explain" ∷ codes "a" ∷ codes "--for" ∷ codes "report" ∷ codes "--bids" ∷ []) ≡ for_answer (record {
  request = request.Explain (record { bids = true; target = Some target.Report; format = format.Words });
  last_wins = false;
  files = codes "a" ∷ [];
  output = None;
})
unfolding clap_on_literals
explained_for_a_report = refl

-- what is found is printed as JSON
explained_as_json : asked (codes "wdp" ∷ codes "explain" ∷ codes "--json" ∷ codes "--bids" ∷ []) ≡ for_answer (record {
  request = request.Explain (record { bids = true; target = None; format = format.Json });
  last_wins = false;
  files = [];
  output = None;
})
unfolding clap_on_literals
explained_as_json = refl

explained_for_none : faults_of (codes "wdp" ∷ codes "explain" ∷ codes "--for=check" ∷ []) ≡ kind.InvalidValue ∷ []
unfolding clap_on_literals
explained_for_none = refl

for_report_alone : faults_of (codes "wdp" ∷ codes "report" ∷ codes "--for" ∷ codes "report" ∷ []) ≡ kind.UnknownArgument ∷ []
unfolding clap_on_literals
for_report_alone = refl
