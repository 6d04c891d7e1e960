-- The number that an option writes, and the program's words.
use Rattle.std.proofs.Common.{◌≡◌, ◌⊎◌, ◌≤◌, ◌<◌, ◌∙◌, ◌^◌, ℕ, Bool, cond, true, false, refl, sym, ap, arith, subst, inl}
use Rattle.std.proofs.Common.{inr, List, [], ◌∷◌, ◌++◌, Option, Result, Ok, Err, IfOk, String, map}
use Rattle.std.specs.Borrow.{Bor}
use Rattle.std.specs.Prelude.{codes, fold, if◌then◌else◌}
use Rattle.std.specs.List.{list_all}
use Rattle.std.proofs.lemmas.List.{map-append}
use Rattle.clap.specs.Simple.{on_top}
use Rattle.std.specs.Str.Parse.{IsNumeral, digits_value, without_leading_plus}
use Rattle.clap.proofs.ValueTestLemmas.{Accepts-accepts, accepts-Accepts}
use Rattle.clap.proofs.SimpleLemmas.{is_false}
use Rattle.clap.proofs.WalkLemmas.{both}
use Rattle.clap.specs.Words.{AddsInTurn, AddsSubcommand, App, HasKind, IsAmong, Kinds, Row, Text, app_of, fault_of, kind_of}
use Rattle.clap.specs.Words.{new_app, subcommand_of, with_subcommand}
use Rattle.clap.specs.declared.builder.command.Command.{Command}
use Rattle.clap.specs.ValueTests.{is_unsigned_in}
use Rattle.clap.specs.declared.builder.value_parser.ValueParser.TheVariants as parser
use Rattle.clap.specs.declared.error.Error.{Error}
use Rattle.clap.specs.Kinds.{or_else}
use Rattle.clap.specs.declared.error.kind.ErrorKind.TheVariants as kind
use Rattle.clap.specs.declared.error.kind.ErrorKind.{ErrorKind}
use Rattle.answers.specs.Asked.{CommandLine, asked, by_fault, by_faults, commands, faults_of, for_answer, named, spelled, target_fault, text_of, wdp}
use Rattle.answers.proofs.KindsFacts.{asks-as, faults_in}

abbrev written : List ℕ → ℕ
written text = digits_value 10 (without_leading_plus text)

-- the number that a text writes, from 1 to the most; of any other text 1
abbrev pub number_in : ℕ → List ℕ → ℕ
number_in most text = if is_unsigned_in 1 most text then written text else 1

abbrev IsWritten : List ℕ → Type 0
IsWritten text = IsNumeral 10 (without_leading_plus text) × (written text < 2 ^ 64)

pub number-read : (most : ℕ) (text : List ℕ) (n : ℕ) → IsWritten text → n ≡ written text → 1 ≤ n → n ≤ most → n ≡ number_in most text
number-read most text n is e least few =
    let within : is_unsigned_in 1 most text ≡ true =
    Accepts-accepts false (parser.Unsigned 1 most) text (is.0, is.1, omega (arith, e, least), omega (arith, e, few)) in
    e ∙ sym (ap (λ (b : Bool). cond b (written text) 1) within)

pub number-unread : (most : ℕ) (text : List ℕ) → ¬ (IsWritten text) → 1 ≡ number_in most text
number-unread most text unwritten = go (is_unsigned_in 1 most text) refl
  where
    go : (b : Bool) → is_unsigned_in 1 most text ≡ b → 1 ≡ cond b (written text) 1
    go true e =
        let h = accepts-Accepts false (parser.Unsigned 1 most) text e in
        absurd (unwritten (h.0, h.1))
    go false e = refl

-- a command with one more, which is plain
added : (old sub new : Command) → AddsSubcommand old sub new → (a s : App) → app_of old ≡ a → app_of sub ≡ s → s.top.is_plain ≡ true
    → app_of new ≡ with_subcommand a s.top
added old sub new adds a s is_old is_sub plain =
    let all : (app_of sub).top.is_plain ≡ true = ap (λ (x : App). x.top.is_plain) is_sub ∙ plain in
    let global = both _ _ (both _ _ (both _ _ all).1).1 in
    subst (λ (x : App). app_of new ≡ with_subcommand x s.top) is_old
    (subst (λ (x : App). app_of new ≡ with_subcommand (app_of old) x.top) is_sub (adds.shape (is_false _ global.0)))

-- a command with more of them, which are plain, in turn
all-added : (old new : Command) (subs : List Command) (a : App) → AddsInTurn AddsSubcommand old subs new → app_of old ≡ a
    → list_all (λ (s : App). s.top.is_plain) (map app_of subs) ≡ true
    → app_of new ≡ fold (λ (app command : App). with_subcommand app command.top) a (map app_of subs)
all-added old new [] a same is plain = ap app_of (sym same) ∙ is
all-added old new (sub ∷ more) a (next, adds, rest) is plain =
    let plainly = both _ _ plain in
    all-added next new more (with_subcommand a (app_of sub).top) rest (added old sub next adds a (app_of sub) is refl plainly.0) plainly.1

-- the program's command, where there is memory for it
pub is-wdp : {E : Type 0} (old : Command) (subs : List Command) (r : Result Command E)
    → app_of old ≡ on_top (λ s. record s { has_version = true; disable_help_subcommand = true }) (new_app (codes "wdp"))
    → map app_of subs ≡ commands → IfOk r (AddsInTurn AddsSubcommand old subs) → IfOk r (λ new. app_of new ≡ wdp)
is-wdp {E} old subs (Ok new) is are adds =
    all-added old new subs _ adds is (ap (list_all (λ (s : App). s.top.is_plain)) are)
    ∙ ap (fold (λ (app command : App). with_subcommand app command.top)
    (on_top (λ s. record s { has_version = true; disable_help_subcommand = true }) (new_app (codes "wdp")))) are
is-wdp old subs (Err e) is are adds = tt

-- one more command in a list
pub pushed : (old new : List Command) (command : Command) (a : App) → new ≡ old ++ command ∷ [] → app_of command ≡ a → map app_of new ≡ map app_of old ++ a ∷ []
pushed old new command a is app = ap (map app_of) is ∙ map-append app_of old (command ∷ []) ∙ ap (λ (x : App). map app_of old ++ x ∷ []) app

-- one more command after those that are listed
pub then-added : (old new before : List App) (app parsed : App) → new ≡ old ++ app ∷ [] → old ≡ before → app ≡ parsed → new ≡ before ++ parsed ∷ []
then-added old new before app parsed adds is same = adds ∙ ap (λ (xs : List App). xs ++ app ∷ []) is ∙ ap (λ (x : App). before ++ x ∷ []) same

-- ---- what words ask for

-- the texts that the parser takes, by the words from which they are made
pub parsed-words : {Z : Type 0} (slice items from : List (String Z)) (texts again : List (Bor Text)) → slice ≡ items → items ≡ from
    → map (λ text. text.now) texts ≡ spelled (map text_of slice) → again ≡ texts
    → map (λ text. text.now) again ≡ spelled (map text_of from)
parsed-words {Z} slice items from texts again is_slice is_from is_spelled is_again =
    ap (λ (xs : List (Bor Text)). map (λ text. text.now) xs) is_again ∙ is_spelled
    ∙ ap (λ (ws : List (String Z)). spelled (map text_of ws)) (is_slice ∙ is_from)

-- a kind among faults is one among those after which others come
among-or : (k : ErrorKind) (xs ys : Kinds) → IsAmong k xs → IsAmong k (or_else xs ys)
among-or k [] ys among = absurd among
among-or k (x ∷ xs) ys among = among

module _ (words texts : List Text) (same : texts ≡ spelled words) where
  asks-so : (k : ErrorKind) → IsAmong k (faults_in texts) → asked words ≡ by_fault k
  asks-so k among = subst (λ (t : List Text). by_faults (faults_in t) (named (subcommand_of wdp t)) ≡ by_fault k) same
      (asks-as texts (named (subcommand_of wdp texts)) k among)

  pub parsed-answer : (rows : Option (Text × List Row)) (line : CommandLine) → fault_of wdp texts ≡ [] → rows ≡ subcommand_of wdp texts
      → target_fault rows ≡ [] → line ≡ named rows → asked words ≡ for_answer line
  parsed-answer rows line none met known is =
      subst (λ (t : List Text). by_faults (faults_in t) (named (subcommand_of wdp t)) ≡ for_answer line) same
      (ap (λ (kinds : Kinds). by_faults (or_else kinds (target_fault (subcommand_of wdp texts))) (named (subcommand_of wdp texts))) none
      ∙ ap (λ (kinds : Kinds). by_faults kinds (named (subcommand_of wdp texts))) (ap target_fault (sym met) ∙ known)
      ∙ ap (λ (l : CommandLine). for_answer l) (sym (is ∙ ap named met)))

  pub among-faults : (e : Error) → HasKind (fault_of wdp texts) e → HasKind (faults_of words) e
  among-faults e (inl memory) = inl memory
  among-faults e (inr among) = subst (λ (t : List Text). HasKind (faults_in t) e) same
      (inr (among-or (kind_of e) (fault_of wdp texts) (target_fault (subcommand_of wdp texts)) among))

  pub parsed-fault : (e : Error) → HasKind (fault_of wdp texts) e → (kind_of e ≡ kind.OutOfMemory) ⊎ (asked words ≡ by_fault (kind_of e))
  parsed-fault e (inl memory) = inl memory
  parsed-fault e (inr among) = inr (asks-so (kind_of e) (among-or (kind_of e) (fault_of wdp texts) (target_fault (subcommand_of wdp texts)) among))

  -- a command for which an input is to be explained, in words that the parser takes
  module _ (rows : Option (Text × List Row)) (e : Error) (none : fault_of wdp texts ≡ []) (met : rows ≡ subcommand_of wdp texts) where
    in-texts : HasKind (target_fault rows) e → HasKind (faults_in texts) e
    in-texts has =
        subst (λ (kinds : Kinds). HasKind (or_else kinds (target_fault (subcommand_of wdp texts))) e) (sym none)
        (subst (λ (r : Option (Text × List Row)). HasKind (target_fault r) e) met has)

    pub among-target : HasKind (target_fault rows) e → HasKind (faults_of words) e
    among-target has = subst (λ (t : List Text). HasKind (faults_in t) e) same (in-texts has)

    pub parsed-target : HasKind (target_fault rows) e → (kind_of e ≡ kind.OutOfMemory) ⊎ (asked words ≡ by_fault (kind_of e))
    parsed-target has = elim (in-texts has) [ inl memory ↦ inl memory | inr among ↦ inr (asks-so (kind_of e) among) ]
