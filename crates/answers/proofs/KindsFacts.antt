-- Whatever faults words may have, all of them ask for the same: help, the version, or nothing.
use Rattle.std.proofs.Common.{◌≡◌, ◌⊎◌, ◌∙◌, ◌&&◌, ◌||◌, ℕ, Bool, cond, true, false, not, zero, suc, refl, sym, ap, inl}
use Rattle.std.proofs.Common.{inr, List, [], ◌∷◌, Option, Some, None, true≢false}
use Rattle.std.specs.Prelude.{◌==◌, codes, drop, encode_utf8, find, is_some, length, min, nat_lt, slice_get, ◌+◌}
use Rattle.std.specs.Option.{option_map_or}
use Rattle.std.specs.Prelude.{option_and_then}
use Rattle.std.specs.Str.{bytes_eq, chars}
use Rattle.clap.specs.Facts.{parser_of_value, unwrap_or_range}
use Rattle.clap.specs.Faults.{action_fault, built_fault, bundle_step_fault, count_fault, default_fault, defaults_fault}
use Rattle.clap.specs.Faults.{entered_fault, fault_of, flag_word_fault, flags_fault, level_fault, long_fault, option_fault}
use Rattle.clap.specs.Faults.{other_fault, positional_fault, react_fault, repeat_fault, set_fault, settle_fault}
use Rattle.clap.specs.Faults.{short_fault, step_fault, stray_fault, turn_fault, use_fault, values_fault, walk_fault}
use Rattle.clap.specs.Faults.{word_fault}
use Rattle.clap.specs.Kinds.{check_kinds, or_else, range_kinds, request_kinds, value_kinds, values_kinds}
use Rattle.clap.specs.Lexer.{long_of, short_of}
use Rattle.clap.specs.Matches.{count_text}
use Rattle.clap.specs.Simple.{Shape, argument_words, built, entered, label_of, names_of}
use Rattle.clap.specs.Values.{refused_kind}
use Rattle.clap.specs.ValueTests.{accepts}
use Rattle.clap.specs.Walk.{Held, Names, Step, Waiting, Walk, action_of, answers_to, arg_by_id, arg_by_index, arg_by_long}
use Rattle.clap.specs.Walk.{arg_by_short, attached_value, count_of, has_row, idle, is_empty, is_pending, most_values}
use Rattle.clap.specs.Walk.{nothing_held, option, positional, reacted, settled, subcommand_met, takes_several, takes_values}
use Rattle.clap.specs.Walk.{value, values_or_missing, walk, walk_from, walked, with_default, word_met}
use Rattle.clap.specs.Words.{App, IsAmong, Kinds, Row, Rule, Text, first_of, subcommand_of}
use Rattle.clap.specs.declared.builder.action.ArgAction.TheVariants as action
use Rattle.clap.specs.declared.builder.action.ArgAction.{ArgAction}
use Rattle.clap.specs.declared.builder.value_parser.ValueParser.{ValueParser}
use Rattle.clap.specs.declared.error.kind.ErrorKind.TheVariants as kind
use Rattle.clap.specs.declared.error.kind.ErrorKind.{ErrorKind}
use Rattle.answers.specs.Asked.{Asked, CommandLine, by_fault, by_faults, for_nothing, command_fault, target_fault, wdp}
use Rattle.auction_input.specs.Requests.{target_named}

-- each of the kinds asks for the same
abbrev pub AskAlike : Kinds → Type 0
AskAlike kinds = (asked : Asked) × ((k : ErrorKind) → IsAmong k kinds → by_fault k ≡ asked)

none : AskAlike []
none = (for_nothing, λ k never. absurd never)

one : (k : ErrorKind) → AskAlike (k ∷ [])
one k = (by_fault k, λ x among. elim among [ inl is ↦ ap by_fault is | inr never ↦ absurd never ])

either : (b : Bool) (xs ys : Kinds) → AskAlike xs → AskAlike ys → AskAlike (cond b xs ys)
either true xs ys first second = first
either false xs ys first second = second

after : (xs ys : Kinds) → AskAlike xs → AskAlike ys → AskAlike (or_else xs ys)
after [] ys first second = second
after (k ∷ more) ys first second = first

mapped : {A : Type 0} (f : A → Kinds) (o : Option A) (default : Kinds) → ((x : A) → AskAlike (f x)) → AskAlike default → AskAlike (option_map_or f o default)
mapped f None default each without = without
mapped f (Some x) default each without = each x

-- ---- one use of an argument

of-value : (i : Bool) (p : ValueParser) (text : Text) → AskAlike (value_kinds i p text)
of-value i p text = either (accepts i p text) [] (refused_kind p ∷ []) none (one (refused_kind p))

of-values : (i : Bool) (p : ValueParser) (texts : List Text) → AskAlike (values_kinds i p texts)
of-values i p [] = none
of-values i p (v ∷ vs) = after (value_kinds i p v) (values_kinds i p vs) (of-value i p v) (of-values i p vs)

of-range : (least most n : ℕ) → AskAlike (range_kinds least most n)
of-range least most n =
    either (nat_lt 0 least && n == 0) _ _ (one kind.InvalidValue)
    (either (least == most) _ _ (either (least == n) _ _ none (one kind.WrongNumberOfValues))
    (either (nat_lt n least) _ _ (one kind.TooFewValues) (either (nat_lt most n) _ _ (one kind.TooManyValues) none)))

of-request : (x : ArgAction) → AskAlike (request_kinds x)
of-request action.Help = one kind.DisplayHelp
of-request action.HelpShort = one kind.DisplayHelp
of-request action.HelpLong = one kind.DisplayHelp
of-request action.Version = one kind.DisplayVersion
of-request x = none

of-count : (a : Rule) (vs : List Text) (rows : List Row) → AskAlike (count_fault a vs rows)
of-count a [] rows = of-value a.ignore_case (parser_of_value a.parser) (count_text (min (count_of a.id rows + 1) 255))
of-count a (v ∷ vs) rows = of-values a.ignore_case (parser_of_value a.parser) (v ∷ vs)

of-repeat : (again : Bool) (id : Text) (rows : List Row) → AskAlike (repeat_fault again id rows)
of-repeat again id rows = either (has_row id rows && not again) _ _ (one kind.ArgumentConflict) none

of-set : (again : Bool) (a : Rule) (values : List Text) (rows : List Row) → AskAlike (set_fault again a values rows)
of-set again a values rows = after (repeat_fault again a.id rows) (values_fault a values) (of-repeat again a.id rows)
    (of-values a.ignore_case (parser_of_value a.parser) values)

of-action : (x : ArgAction) (again : Bool) (a : Rule) (values : List Text) (rows : List Row) → AskAlike (action_fault x again a values rows)
of-action action.Set again a values rows = of-set again a values rows
of-action action.SetTrue again a values rows = of-set again a values rows
of-action action.SetFalse again a values rows = of-set again a values rows
of-action action.Append again a values rows = of-values a.ignore_case (parser_of_value a.parser) values
of-action action.Count again a values rows = of-count a values rows
of-action x again a values rows = of-request x

of-use : (again : Bool) (a : Rule) (values : List Text) (rows : List Row) → AskAlike (use_fault again a values rows)
of-use again a values rows =
    after (range_kinds (unwrap_or_range a.range).start_inclusive (most_values a) (length values))
    (action_fault (action_of a) again a (values_or_missing a values) rows)
    (of-range (unwrap_or_range a.range).start_inclusive (most_values a) (length values)) (of-action (action_of a) again a (values_or_missing a values) rows)

-- ---- the words of one level

module _ (c : List Rule) (again : Bool) where
  of-settle : (h : Held) → AskAlike (settle_fault c again h)
  of-settle h = mapped _ h.pending [] (λ p. mapped _ (arg_by_id c p.0) [] (λ a. of-use again a p.1 h.rows) none) none

  of-react : (a : Rule) (values : List Text) (h : Held) → AskAlike (react_fault c again a values h)
  of-react a values h = after (settle_fault c again h) (use_fault again a values (settled c h).rows) (of-settle h) (of-use again a values (settled c h).rows)

  of-option : (a : Rule) (v : Option Text) (h : Held) → AskAlike (option_fault c again a v h)
  of-option a (Some v) h = of-react a (v ∷ []) h
  of-option a None h = of-settle h

  of-long : (found : Option Rule) (v : Option Text) (h : Held) → AskAlike (long_fault c again found v h)
  of-long None v h = one kind.UnknownArgument
  of-long (Some a) v h = either (takes_values a) _ _ (of-option a v h) (either (is_some v) _ _ (one kind.TooManyValues) (of-react a [] h))

  of-short : (found : Option Rule) (rest : Text) (h : Held) (more : Held → Kinds) → ((h : Held) → AskAlike (more h))
      → AskAlike (short_fault c again found rest h more)
  of-short None rest h more each = one kind.UnknownArgument
  of-short (Some a) rest h more each =
      either (takes_values a) _ _ (of-option a (attached_value rest) h)
      (after (react_fault c again a [] h) (more (reacted c a [] h)) (of-react a [] h) (each (reacted c a [] h)))

  of-bundle_step : (first : Option ℕ) (flags : Text) (skip : ℕ) (h : Held) (more : Text → ℕ → Held → Kinds)
      → ((t : Text) (n : ℕ) (h : Held) → AskAlike (more t n h))
      → AskAlike (bundle_step_fault c again first flags skip h more)
  of-bundle_step None flags skip h more each = none
  of-bundle_step (Some x) flags zero h more each =
      let rest = drop (length (encode_utf8 x)) flags in
      of-short (arg_by_short c x) rest h (more rest 0) (each rest 0)
  of-bundle_step (Some x) flags (suc skip) h more each = each (drop (length (encode_utf8 x)) flags) skip h

  of-flags : (k : ℕ) (flags : Text) (skip : ℕ) (h : Held) → AskAlike (flags_fault c again k flags skip h)
  unfolding flags_fault
  of-flags zero flags skip h = none
  of-flags (suc k) flags skip h = of-bundle_step (slice_get (chars flags) 0) flags skip h (flags_fault c again k) (of-flags k)

  of-flag_word : (long : Option (Text × Option Text)) (word : Text) (h : Held) → AskAlike (flag_word_fault c again long word h)
  of-flag_word (Some p) word h = of-long (arg_by_long c p.0) p.1 h
  of-flag_word None word h = mapped _ (short_of word) [] (λ flags. of-flags (length flags) flags h.skip (record h { skip = 0 })) none

  of-positional : (a : Rule) (h : Held) → AskAlike (positional_fault c again a h)
  of-positional a h = either (is_pending a h.pending && takes_several a) _ _ none (of-settle h)

-- where `help` is no subcommand that the parser answers
answers-none : (b off : Bool) → off ≡ true → AskAlike (cond (b && not off) (kind.DisplayHelp ∷ kind.InvalidSubcommand ∷ []) [])
answers-none true true is = none
answers-none false true is = none
answers-none b false is = absurd (true≢false (sym is))

of-other : (s : Shape) (met : Option Text) (word : Text) (h : Held) → (s.disable_help_subcommand ≡ true) ⊎ (met ≡ None) → AskAlike (other_fault s met word h)
of-other s (Some name) word h (inl off) = answers-none (bytes_eq name (codes "help")) s.disable_help_subcommand off
of-other s (Some name) word h (inr unmet) = (let bad : Some name ≡ None = unmet in cc)
of-other s None word h off = either (bytes_eq word (45 ∷ 45 ∷ [])) _ _ none (of-flag_word s.rules s.args_override_self (long_of word) word h)

-- a level that has no subcommand meets none
unmet : (waiting : Waiting) (word : Text) → subcommand_met [] waiting word ≡ None
unmet idle word = refl
unmet (option id) word = refl
unmet positional word = refl

of-stray : (s : Shape) → AskAlike (stray_fault s)
of-stray s = either s.is_leaf _ _ (one kind.UnknownArgument) (for_nothing, go)
  where
    go : (k : ErrorKind) → IsAmong k (kind.UnknownArgument ∷ kind.InvalidSubcommand ∷ []) → by_fault k ≡ for_nothing
    go k (inl is) = ap by_fault is
    go k (inr among) = elim among [ inl is ↦ ap by_fault is | inr never ↦ absurd never ]

of-step : (s : Shape) (position : ℕ) (h : Held) (step : Step) → AskAlike (step_fault s position h step)
of-step s position h value = mapped _ (arg_by_index s.rules position) (stray_fault s) (λ a. of-positional s.rules s.args_override_self a h) (of-stray s)
of-step s position h step = none

module _ (s : Shape) (names : Names) (off : (s.disable_help_subcommand ≡ true) ⊎ (names ≡ [])) where
  unanswered : (waiting : Waiting) (word : Text) → (s.disable_help_subcommand ≡ true) ⊎ (subcommand_met names waiting word ≡ None)
  unanswered waiting word = elim off [ inl is ↦ inl is | inr is ↦ inr (ap (λ (xs : Names). subcommand_met xs waiting word) is ∙ unmet waiting word) ]

  of-word : (is_trailing : Bool) (waiting : Waiting) (word : Text) (h : Held) → AskAlike (word_fault s names is_trailing waiting word h)
  of-word is_trailing waiting word h = either is_trailing _ _ none (of-other s (subcommand_met names waiting word) word h (unanswered waiting word))

  of-turn : (w : Walk) (word : Text) → AskAlike (turn_fault s names w word)
  of-turn w word =
      let met = word_met s.rules names w.is_trailing w.waiting w.position word w.held in
      either (is_some w.stopped) _ _ none
      (after (word_fault s names w.is_trailing w.waiting word w.held) (step_fault s w.position met.0 met.1)
      (of-word w.is_trailing w.waiting word w.held) (of-step s w.position met.0 met.1))

  of-walk : (w : Walk) (words : List Text) → AskAlike (walk_fault s names w words)
  unfolding walk_fault
  of-walk w [] = none
  of-walk w (word ∷ rest) = after (turn_fault s names w word) (walk_fault s names (walked s.rules names w word) rest) (of-turn w word)
      (of-walk (walked s.rules names w word) rest)

-- ---- after the walk

of-default : (rows : List Row) (a : Rule) → AskAlike (default_fault rows a)
of-default rows a =
    either (has_row a.id rows || is_empty a.defaults) _ _ none
    (after (request_kinds (action_of a)) (values_fault a a.defaults) (of-request (action_of a))
    (of-values a.ignore_case (parser_of_value a.parser) a.defaults))

of-defaults : (rows : List Row) (rules : List Rule) → AskAlike (defaults_fault rows rules)
unfolding defaults_fault
of-defaults rows [] = none
of-defaults rows (a ∷ rest) =
    after (default_fault rows a) (defaults_fault (with_default rows a) rest) (of-default rows a) (of-defaults (with_default rows a) rest)

of-checks : (help command argument : Bool) → AskAlike (check_kinds help command argument)
of-checks help command argument =
    either help _ _ (one kind.DisplayHelpOnMissingArgumentOrSubcommand)
    (either command _ _ (one kind.MissingSubcommand) (either argument _ _ (one kind.MissingRequiredArgument) none))

of-level : (s : Shape) (names : Names) (h : Held) (words : List Text) (has_subcommand : Bool) (below : Kinds)
    → (s.disable_help_subcommand ≡ true) ⊎ (names ≡ []) → AskAlike below
    → AskAlike (level_fault s names h words has_subcommand below)
of-level s names h words has_subcommand below off under =
    let end = (walk s.rules names h words).held in
    after (walk_fault s names (walk_from h) words) _ (of-walk s names off (walk_from h) words)
    (after below _ under
    (after (settle_fault s.rules s.args_override_self end) _ (of-settle s.rules s.args_override_self end)
    (after (defaults_fault (settled s.rules end).rows s.rules) _ (of-defaults (settled s.rules end).rows s.rules)
    (of-checks _ _ _))))

of-entered : (a : App) (stop : Option (Text × List Text)) → AskAlike (entered_fault a stop)
of-entered a stop =
    mapped _ stop [] (λ p. mapped _ (find (λ s. answers_to p.0 (label_of s)) a.subs) []
    (λ s. of-level s [] nothing_held p.1 false [] (inr refl) none) none) none

of-built : (a : App) (h : Held) (words : List Text) → a.top.disable_help_subcommand ≡ true → AskAlike (built_fault a h words)
of-built a h words off =
    let stop = (walk a.top.rules (names_of a) h words).stopped in
    of-level a.top (names_of a) h words (is_some (entered a stop)) (entered_fault a stop) (inl off) (of-entered a stop)

alike : (words : List Text) → AskAlike (fault_of wdp words)
alike words = of-built (built wdp) nothing_held (argument_words wdp words) refl

-- what the first of them asks for
by-first : (kinds : Kinds) (line : CommandLine) (k : ErrorKind) → AskAlike kinds → IsAmong k kinds → by_faults kinds line ≡ by_fault k
by-first [] line k (asked, same) among = absurd among
by-first (first ∷ more) line k (asked, same) among = same first (inl refl) ∙ sym (same k among)

-- the command for which an input is to be explained
of-target : (found : Option (Text × List Row)) → AskAlike (target_fault found)
of-target found =
    mapped command_fault (option_and_then (λ ((name, rows) : Text × List Row). first_of (codes "for") rows) found) []
    (λ name. mapped (λ command. []) (target_named name) (kind.InvalidValue ∷ []) (λ command. none) (one kind.InvalidValue)) none

-- the faults of words as the parser takes them
abbrev pub faults_in : List Text → Kinds
faults_in words = or_else (fault_of wdp words) (target_fault (subcommand_of wdp words))

pub asks-as : (words : List Text) (line : CommandLine) (k : ErrorKind) → IsAmong k (faults_in words) → by_faults (faults_in words) line ≡ by_fault k
asks-as words line k among =
    by-first (faults_in words) line k (after (fault_of wdp words) (target_fault (subcommand_of wdp words)) (alike words)
    (of-target (subcommand_of wdp words))) among
