-- What the words on the command line ask for.
use Rattle.std.specs.Prelude.{ℕ, List, [], ◌∷◌, ◌++◌, Bool, Option, None, Some, Result, Ok, Err, String, false, true, codes}
use Rattle.std.specs.Prelude.{fold, if◌then◌else◌, map, option_and_then, option_map, unwrap_or}
use Rattle.std.specs.Option.{option_map_or}
use Rattle.std.specs.Str.{bytes_eq}
use Rattle.std.specs.Str.Parse.{digits_value, without_leading_plus}
use Rattle.std.specs.Vec.Iter.{into_iter_items}
use Rattle.std.specs.declared.vec.IntoIter.{IntoIter}
use Rattle.auction_input.specs.declared.request.ExplainOptions.{ExplainOptions}
use Rattle.auction_input.specs.declared.request.Objects.{Objects}
use Rattle.auction_input.specs.declared.request.Objects.TheVariants as objects
use Rattle.auction_input.specs.declared.request.Request.TheVariants as request
use Rattle.auction_input.specs.declared.request.Request.{Request}
use Rattle.auction_input.specs.declared.request.Target.{Target}
use Rattle.answers.specs.declared.command_line.Command.{Command}
use Rattle.byte_sinks.specs.declared.json.Format.TheVariants as format
use Rattle.byte_sinks.specs.declared.json.Format.{Format}
use Rattle.auction_terms.specs.declared.limits.TheConstants.{MOST_GROUPS}
use Rattle.clap.specs.Kinds.{or_else}
use Rattle.clap.specs.Simple.{on_top}
use Rattle.clap.specs.ValueTests.{is_unsigned_in}
use Rattle.clap.specs.Words.{App, Kinds, Row, Rule, Text, all_of, fault_of, first_of, new_app, new_rule, subcommand_of, with_rule, with_subcommand}
use Rattle.clap.specs.declared.builder.action.ArgAction.TheVariants as action
use Rattle.clap.specs.declared.builder.value_parser.ValueParser.TheVariants as parser
use Rattle.clap.specs.declared.error.kind.ErrorKind.TheVariants as kind
use Rattle.clap.specs.declared.error.kind.ErrorKind.{ErrorKind}
use Rattle.auction_terms.specs.declared.limits.TheConstants.{MOST_WORKERS}
use Rattle.auction_input.specs.Requests.{target_named}

-- how many workers compile: from 1 on, and 1 where nothing is said
abbrev pub workers : Rule
workers = record (new_rule (codes "workers")) {
  long = Some (codes "workers");
  value_names = 1;
  parser = Some
      (parser.Unsigned 1 MOST_WORKERS);
  defaults = codes "1" ∷ [];
}

-- which group is left out: from 1 on
abbrev pub group : Rule
group = record (new_rule (codes "group")) { long = Some (codes "group"); value_names = 1; parser = Some (parser.Unsigned 1 MOST_GROUPS); required = true }

-- whether the lines of `forms` come first: no, where nothing is said
abbrev pub with_forms : Rule
with_forms = record (new_rule (codes "forms")) { long = Some (codes "forms"); action = Some action.SetTrue }

-- whether bids that are in no program are reported: no, where nothing is said
abbrev pub bids : Rule
bids = record (new_rule (codes "bids")) { long = Some (codes "bids"); action = Some action.SetTrue }

-- the command for which an input is explained, by its name
abbrev pub explained_for : Rule
explained_for = record (new_rule (codes "for")) { long = Some (codes "for"); value_names = 1 }

-- whether an explanation is printed as JSON: no, where nothing is said
abbrev pub json : Rule
json = record (new_rule (codes "json")) { long = Some (codes "json"); action = Some action.SetTrue }

-- whether a bidder may have forms in several files, of which the last one counts: no, where nothing is said
abbrev pub last_wins : Rule
last_wins = record (new_rule (codes "last-wins")) { long = Some (codes "last-wins"); action = Some action.SetTrue }

-- the file that is written: -o FILE, --output FILE
abbrev pub output : Rule
output = record (new_rule (codes "output")) { short = Some 111; long = Some (codes "output"); value_names = 1 }

-- the file that is read, at most one
abbrev pub file : Rule
file = record (new_rule (codes "files")) { value_names = 1 }

-- the files that are read, as many as there are words for them
abbrev pub files : Rule
files = record file { action = Some action.Append }

-- a command that reads forms, with the files that it reads and writes
abbrev pub for_forms : App → App
for_forms app = with_rule (with_rule (with_rule app last_wins) output) files

-- one that reads one text, with the same
abbrev pub for_text : App → App
for_text app = with_rule (with_rule app output) file

-- the commands, in the order in which the help lists them; `help` is listed among them (what it does is said below)
abbrev pub commands : List App
commands =
    for_forms (new_app (codes "text")) ∷
    for_forms (with_rule (new_app (codes "compile")) workers) ∷
    for_text (new_app (codes "check")) ∷
    for_forms (with_rule (new_app (codes "map")) group) ∷
    for_forms (with_rule (with_rule (new_app (codes "report")) workers) json) ∷
    for_forms (with_rule (with_rule (with_rule (new_app (codes "verify")) workers) with_forms) json) ∷
    for_forms (with_rule (with_rule (with_rule (new_app (codes "explain")) bids) explained_for) json) ∷
    for_forms (with_rule (new_app (codes "forms")) json) ∷
    new_app (codes "help") ∷ []

-- the program's own words: a version, and the commands
abbrev pub wdp : App
wdp = fold (λ (app command : App). with_subcommand app command.top)
    (on_top (λ s. record s { has_version = true; disable_help_subcommand = true }) (new_app (codes "wdp"))) commands

-- the number that an option writes, from 1 to the most; where it writes none, 1
abbrev pub option_number : Text → ℕ → List Row → ℕ
option_number id most rows = option_map_or (λ text. if is_unsigned_in 1 most text then digits_value 10 (without_leading_plus text) else 1) (first_of id rows) 1

-- whether an option without a value is there: the parser gives it a text
abbrev pub option_flag : Text → List Row → Bool
option_flag id rows = option_map_or (λ text. bytes_eq text (codes "true")) (first_of id rows) false

-- the command that an option names
abbrev pub option_target : Text → List Row → Option Target
option_target id rows = option_and_then target_named (first_of id rows)

-- how an explanation is printed: in words, or as JSON where an option without a value is there
abbrev pub option_format : Text → List Row → Format
option_format id rows = if option_flag id rows then format.Json else format.Words

-- what `explain` is asked
abbrev pub explain_options : List Row → ExplainOptions
explain_options rows = record {
  bids = option_flag (codes "bids") rows;
  target = option_target (codes "for") rows;
  format = option_format (codes "json") rows;
}

-- the texts of an argument, in order
abbrev pub option_texts : Text → List Row → List Text
option_texts id rows = unwrap_or (all_of id rows) []

-- what `verify` is asked
abbrev pub verify_named : List Row → Request
verify_named rows =
    if option_flag (codes "forms") rows then request.VerifyWithForms (option_number (codes "workers") MOST_WORKERS rows)
    else request.Verify (option_number (codes "workers") MOST_WORKERS rows)

-- a request, or what takes its place where objects of JSON are asked for
abbrev pub in_format : Format → Request → Objects → Request
in_format format.Words asked of = asked
in_format format.Json asked of = request.Objects of

-- the request of the command that is named, with its options
abbrev pub request_named : Option (Text × List Row) → Request
request_named None = request.Text
request_named (Some (name, rows)) =
    if bytes_eq name (codes "compile") then request.Compile (option_number (codes "workers") MOST_WORKERS rows)
    else if bytes_eq name (codes "check") then request.Check
    else if bytes_eq name (codes "map") then request.Map (option_number (codes "group") MOST_GROUPS rows)
    else if bytes_eq name (codes "report") then in_format (option_format (codes "json") rows)
    (request.Report (option_number (codes "workers") MOST_WORKERS rows)) (objects.Report (option_number (codes "workers") MOST_WORKERS rows))
    else if bytes_eq name (codes "verify") then in_format (option_format (codes "json") rows) (verify_named rows)
    (objects.Verify (option_number (codes "workers") MOST_WORKERS rows))
    else if bytes_eq name (codes "explain") then request.Explain (explain_options rows)
    else if bytes_eq name (codes "forms") then in_format (option_format (codes "json") rows) request.Forms objects.Forms
    else request.Text

-- what a command line asks for: a request, whether the last form of a bidder counts in whichever file it is, the files that it
-- reads, in order (none: standard input), and the one that it writes (none: standard output)
pub record CommandLine : Type 0 where
  pub request : Request
  pub last_wins : Bool
  pub files : List Text
  pub output : Option Text

-- the request of the command that is named, with its files; no command names none
abbrev pub named : Option (Text × List Row) → CommandLine
named found = record {
  request = request_named found;
  last_wins = option_map_or (λ (name, rows). option_flag (codes "last-wins") rows) found false;
  files = option_map_or (λ (name, rows). option_texts (codes "files") rows) found [];
  output = option_and_then (λ (name, rows). first_of (codes "output") rows) found;
}

-- the bytes of a word
abbrev pub text_of : {Z : Type 0} → String Z → Text
text_of word = word.bytes.items

-- what the program's own record of a command line says
abbrev pub command_line_of : Command → CommandLine
command_line_of command = record {
  request = command.request;
  last_wins = command.last_wins;
  files = map text_of command.files.items;
  output = option_map text_of command.output;
}

-- what words ask for: an answer, help, the version; or nothing, since they have a fault
pub data Asked : Type 0 where
  for_answer : CommandLine → Asked
  for_help : Asked
  for_version : Asked
  for_nothing : Asked

-- help and the version are faults of the words to the parser
abbrev pub by_fault : ErrorKind → Asked
by_fault kind.DisplayHelp = for_help
by_fault kind.DisplayVersion = for_version
by_fault k = for_nothing

-- the first fault counts; without one the command line does
abbrev pub by_faults : Kinds → CommandLine → Asked
by_faults [] line = for_answer line
by_faults (first ∷ more) line = by_fault first

-- the words as the parser takes them: `help` in front of others is put as `--help` after them
abbrev pub spelled : List Text → List Text
spelled (program ∷ first ∷ more) = if bytes_eq first (codes "help") then program ∷ (more ++ codes "--help" ∷ []) else program ∷ first ∷ more
spelled words = words

-- a name that no command has is no possible value
abbrev pub command_fault : Text → Kinds
command_fault name = option_map_or (λ command. []) (target_named name) (kind.InvalidValue ∷ [])

-- the fault of the command for which an input is to be explained, in the words that the parser takes
abbrev pub target_fault : Option (Text × List Row) → Kinds
target_fault found = option_map_or command_fault (option_and_then (λ (name, rows). first_of (codes "for") rows) found) []

-- the faults that words may be refused by, the program's own name first; none where they have none
abbrev pub faults_of : List Text → Kinds
faults_of words = or_else (fault_of wdp (spelled words)) (target_fault (subcommand_of wdp (spelled words)))

-- what words ask for, the program's own name first
abbrev pub asked : List Text → Asked
asked words = by_faults (faults_of words) (named (subcommand_of wdp (spelled words)))

-- what the command line asks for, by the words that std gives, and nothing if it gives none
abbrev pub asked_of : {Z E : Type 0} → Result (IntoIter (String Z) Z) E → Asked
asked_of (Ok words) = asked (map text_of (into_iter_items words))
asked_of (Err e) = for_nothing
