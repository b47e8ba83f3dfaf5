-- What the words of a command line ask for.
use Rattle.std.specs.Prelude.{ℕ, ◌≡◌, ◌⊎◌, Bool, ◌&&◌, ◌||◌, not, true, false, Option, Some, None, List, [], ◌++◌, codes, if◌then◌else◌, is_none, is_some, map, option_map, unwrap_or}
use Rattle.std.specs.Borrow.{Bor}
use Rattle.std.specs.Str.{bytes_eq}
use Rattle.clap.specs.Words.{App, IsAmong, Row, all_of, first_of, kind_of, one_of, subcommand_of, fault_of}
use Rattle.clap.specs.declared.error.kind.ErrorKind.{ErrorKind}
use Rattle.clap.specs.declared.error.kind.ErrorKind.TheVariants.{OutOfMemory}
use Rattle.vs_certificate.specs.declared.members.ClaimedGrain.{ClaimedGrain}
use Rattle.vs_certificate.specs.declared.members.ClaimedGrain.TheVariants.{Block, Statement}
use Rattle.vs_certificate.specs.declared.members.Rules.{Rules}
use Rattle.vs_certificate.specs.declared.members.Rules.TheVariants.{Narrow, Wide}
use Rattle.vs_program_words.specs.Choices.{is_choices}
use Rattle.vs_design.specs.declared.timescale.TimeUnit.{TimeUnit}
use Rattle.vs_program_words.specs.FileWords.{names_file}
use Rattle.vs_program_words.specs.Moments.{IsNoMoment, IsNumber, IsUntil}
use Rattle.vs_program_words.specs.Options.{AreOptions}
use Rattle.vs_program_words.specs.declared.words.Hunt.{Hunt}
use Rattle.vs_program_words.specs.declared.words.Outputs.{Outputs}
use Rattle.vs_program_words.specs.declared.words.Request.{Request}
use Rattle.vs_program_words.specs.declared.words.Call as asked
use Rattle.vs_program_words.specs.declared.words.Sources.{Sources}
use Rattle.vs_program_words.specs.declared.words.Subcommand.{Subcommand}
use Rattle.vs_program_words.specs.declared.words.Subcommand.TheVariants.{Run, RunCertified, Check, Certify, Race, Elab, Preprocess}
use Rattle.vs_program_words.specs.declared.words.Order.{Order}
use Rattle.vs_program_words.specs.declared.words.Order.TheVariants.{Fifo, Lifo, Listed}
use Rattle.vs_program_words.specs.declared.words.OutputText.{OutputText}
use Rattle.vs_program_words.specs.declared.words.OutputText.TheVariants.{Lines, Dump}
use Rattle.vs_program_words.specs.declared.words.WordsFault.{WordsFault}
use Rattle.vs_program_words.specs.declared.words.WordsFault.TheVariants as fault

-- whether a flag is given, by its text
abbrev pub flag_named : Option (List ℕ) → Bool
flag_named None = false
flag_named (Some text) = bytes_eq text (codes "true")

-- the text that a word names
abbrev pub text_named : Option (List ℕ) → OutputText
text_named None = Lines
text_named (Some word) = if bytes_eq word (codes "vcd") then Dump else Lines

-- the grain that a word names
abbrev pub grain_named : Option (List ℕ) → ClaimedGrain
grain_named None = Block
grain_named (Some word) = if bytes_eq word (codes "statement") then Statement else Block

-- the rules that a word names
abbrev pub rules_named : Option (List ℕ) → Rules
rules_named None = Narrow
rules_named (Some word) = if bytes_eq word (codes "wide") then Wide else Narrow

-- the value of an option by its name, where it has one
abbrev pub Values : Type 0
Values = List ℕ → Option (List ℕ)

-- a word names this order: `fifo`, `lifo`, or choices behind `list:`
abbrev pub IsPolicy : List ℕ → Order → Type 0
IsPolicy word Fifo = bytes_eq word (codes "fifo") ≡ true
IsPolicy word Lifo = bytes_eq word (codes "lifo") ≡ true
IsPolicy word Listed = (text : List ℕ) × (word ≡ codes "list:" ++ text) × (is_choices text ≡ true)

-- the order that is asked for, where there may be a word for it
abbrev pub IsPolicyIn : Option (List ℕ) → Order → Type 0
IsPolicyIn None order = order ≡ Fifo
IsPolicyIn (Some word) order = IsPolicy word order

-- the name of the top that is asked for, where there may be a word for it
abbrev pub top_named : Option (List ℕ) → List ℕ
top_named word = unwrap_or word []

-- the words and the other values of the options of `vsim run` ask for this, with this moment and this order
pub record Asks (words values : Values) (moment : ℕ) (named : Order) (q : Request) : Type 0 where
  pub top : q.top.now ≡ top_named (words (codes "top"))
  pub until : q.until.count ≡ moment
  pub steps : IsNumber (values (codes "steps")) q.steps.count
  pub order : q.order ≡ named
  pub text : q.text ≡ text_named (words (codes "out"))
  pub rules : q.rules ≡ rules_named (words (codes "rules"))

-- whether an order other than the first one is asked for
abbrev pub has_order : Order → Bool
has_order Fifo = false
has_order _ = true

-- whether a run of a design whose certificate is accepted is asked for: by the flag, or since the certificate's file is named
abbrev pub has_certificate : Values → Values → Bool
has_certificate words values = flag_named (values (codes "cert")) || is_some (words (codes "certificate"))

-- whether the dump is asked for on standard output, by the text that is
abbrev pub is_dump : OutputText → Bool
is_dump Dump = true
is_dump Lines = false

-- a run of a design whose certificate is accepted, which has one order
pub record AsksCertified (words values : Values) (until : ℕ) (order : Order) (q : Request) : Type 0 where
  pub asks : Asks words values until order q
  pub certificate : has_certificate words values ≡ true
  pub first : has_order order ≡ false

-- the verdict on a certificate of this top, by these rules
pub record AsksVerdict (words : Values) (name : List ℕ) (by : Rules) : Type 0 where
  pub top : name ≡ top_named (words (codes "top"))
  pub rules : by ≡ rules_named (words (codes "rules"))

-- a certificate of this top and grain, by these rules
pub record AsksCertificate (words : Values) (name : List ℕ) (g : ClaimedGrain) (by : Rules) : Type 0 where
  pub top : name ≡ top_named (words (codes "top"))
  pub grain : g ≡ grain_named (words (codes "grain"))
  pub rules : by ≡ rules_named (words (codes "rules"))

-- the words and the other values of the options of `vsim race` ask for this, with this moment
pub record AsksRace (words values : Values) (moment : ℕ) (q : Hunt) : Type 0 where
  pub top : q.top.now ≡ top_named (words (codes "top"))
  pub until : q.until.count ≡ moment
  pub steps : IsNumber (values (codes "steps")) q.steps.count
  pub tries : IsNumber (values (codes "tries")) q.tries.count
  pub seed : IsNumber (values (codes "seed")) q.seed.count
  pub start : IsNumber (values (codes "from")) q.from.count
  pub rules : q.rules ≡ rules_named (words (codes "rules"))

-- the subcommands
pub data Name : Type 0 where
  run : Name
  check : Name
  certify : Name
  race : Name
  elab : Name
  preprocess : Name

-- the subcommand of a name; one that isn't another is `run`
abbrev pub name_of : List ℕ → Name
name_of name = if bytes_eq name (codes "preprocess") then preprocess
    else (if bytes_eq name (codes "elab") then elab
    else (if bytes_eq name (codes "check") then check
    else (if bytes_eq name (codes "certify") then certify else (if bytes_eq name (codes "race") then race else run))))

-- the values of the options of a subcommand ask for this, with this moment and this order
abbrev pub AsksAs : Name → Values → Values → ℕ → Order → Subcommand → Type 0
AsksAs run words values until order (Run q) = Asks words values until order q × (has_certificate words values ≡ false)
AsksAs run words values until order (RunCertified q) = AsksCertified words values until order q
AsksAs check words values until order (Check top rules) = AsksVerdict words top.now rules
AsksAs certify words values until order (Certify top grain rules) = AsksCertificate words top.now grain rules
AsksAs race words values until order (Race q) = AsksRace words values until q
AsksAs elab words values until order (Elab top) = top.now ≡ top_named (words (codes "top"))
AsksAs preprocess words values until order Preprocess = Unit {0}
AsksAs _ words values until order _ = ⊥

-- they ask for a run of a design whose certificate is accepted, in another order than the first one
pub record AsksForBoth (words values : Values) : Type 0 where
  pub certificate : has_certificate words values ≡ true
  pub order : Order
  pub named : IsPolicyIn (words (codes "policy")) order
  pub other : has_order order ≡ true

-- they ask for the dump on standard output, and in a file too
pub record AsksForTwo (words : Values) : Type 0 where
  pub out : is_dump (text_named (words (codes "out"))) ≡ true
  pub file : is_some (words (codes "vcd")) ≡ true

-- whether a subcommand has a top, and whether it has a moment
abbrev pub has_top : Name → Bool
has_top preprocess = false
has_top _ = true

abbrev pub has_moment : Name → Bool
has_moment run = true
has_moment race = true
has_moment _ = false

-- all values of an option by its name, where it is given
abbrev pub Lists : Type 0
Lists = List ℕ → Option (List (List ℕ))

-- whether the top is left out of the words of a subcommand that has one
abbrev pub lacks_top : Name → Values → Bool
lacks_top name words = has_top name && is_none (words (codes "top"))

-- whether the moment is there, in ticks, in those of a subcommand that has one
abbrev pub has_ticks : Name → Values → Option TimeUnit → Bool
has_ticks name words unit = is_none unit && (is_some (words (codes "until")) || not (has_moment name))

-- a word that is there names no order
abbrev pub IsNoPolicy : Option (List ℕ) → Type 0
IsNoPolicy None = ⊥
IsNoPolicy (Some word) = (order : Order) → IsPolicy word order → ⊥

-- a text that is there is no moment
abbrev pub IsNoUntil : Option (List ℕ) → Type 0
IsNoUntil None = ⊥
IsNoUntil (Some text) = IsNoMoment text

-- the values of a subcommand's options can't be read: the moment or the order is none, or there are no files, and the top or the moment in ticks isn't
-- there
pub data AreUnread (name : Name) (words : Values) (all : Lists) : Type 0 where
  by_until : IsNoUntil (words (codes "until")) → AreUnread name words all
  by_policy : IsNoPolicy (words (codes "policy")) → AreUnread name words all
  by_lack : unwrap_or (all (codes "files")) [] ≡ [] → (count : ℕ) (unit : Option TimeUnit) → IsUntil (words (codes "until")) count unit →
      (lacks_top name words || not (has_ticks name words unit)) ≡ true → AreUnread name words all

-- a text stands where the moment does, and is none; and where the order does
abbrev pub GivesNoUntil : List ℕ → Values → Type 0
GivesNoUntil text words = (words (codes "until") ≡ Some text) × IsNoMoment text

abbrev pub GivesNoOrder : List ℕ → Values → Type 0
GivesNoOrder text words = (words (codes "policy") ≡ Some text) × IsNoPolicy (Some text)

-- the values of a subcommand's options ask for nothing, with this fault
abbrev pub AskInVain : WordsFault → Name → Values → Values → Type 0
AskInVain fault.OrderOfCertified run words values = AsksForBoth words values
AskInVain fault.TwoDumps run words values = AsksForTwo words
AskInVain _ _ words values = ⊥

-- the same, where the files and the moment were to be read too
abbrev pub CallFails : WordsFault → Name → Values → Values → Lists → Type 0
CallFails fault.Unread name words values all = AreUnread name words all
CallFails (fault.NoUntil text) name words values all = GivesNoUntil text.now words
CallFails (fault.NoOrder text) name words values all = GivesNoOrder text.now words
CallFails fault.Memory name words values all = Unit {0}
CallFails f name words values all = AskInVain f name words values

-- a text that may be there, by its bytes
abbrev pub map_now : Option (Bor (List ℕ)) → Option (List ℕ)
map_now text = option_map (λ t. t.now) text

-- the values of options name these files, macros and folders, in their order
pub record NamesFiles (all : Lists) (s : Sources) : Type 0 where
  pub files : map (λ w. w.now) s.files.items ≡ unwrap_or (all (codes "files")) []
  pub defines : map (λ w. w.now) s.defines.items ≡ unwrap_or (all (codes "define")) []
  pub folders : map (λ w. w.now) s.folders.items ≡ unwrap_or (all (codes "folder")) []

-- the files that are written: that of a text, and that of the dump of a run
pub record NamesOutputs (words : Values) (o : Outputs) : Type 0 where
  pub text : map_now o.text ≡ words (codes "output")
  pub dump : map_now o.dump ≡ words (codes "vcd")

-- the words, which have no fault by the table of options in which the top and the moment may be left out, name a subcommand, with these values of its
-- options
pub record AreAccepted (words : List (List ℕ)) : Type 0 where
  pub app : App
  pub options : AreOptions false app
  pub taken : fault_of app words ≡ []
  pub name : List ℕ
  pub rows : List Row
  pub found : subcommand_of app words ≡ Some (name, rows)

-- the words of the options, and their other values
abbrev pub words_of : {words : List (List ℕ)} → AreAccepted words → Values
words_of t = λ option. first_of option t.rows

abbrev pub values_of : {words : List (List ℕ)} → AreAccepted words → Values
values_of t = λ option. one_of option t.rows

abbrev pub lists_of : {words : List (List ℕ)} → AreAccepted words → Lists
lists_of t = λ option. all_of option t.rows

-- a call without files names its top and its moment, and the moment in ticks
pub record IsWhole (name : Name) (words : Values) (call : asked.Call) : Type 0 where
  pub top : call.finds_top ≡ false
  pub ticks : has_ticks name words call.unit ≡ true

-- the values of the options of a subcommand ask for this call
pub record AsksFor (name : Name) (words values : Values) (all : Lists) (call : asked.Call) : Type 0 where
  pub count : ℕ
  pub until : IsUntil (words (codes "until")) count call.unit
  pub order : Order
  pub policy : IsPolicyIn (words (codes "policy")) order
  pub asks : AsksAs name words values count order call.subcommand
  pub top : call.finds_top ≡ lacks_top name words
  pub sources : NamesFiles all call.sources
  pub whole : call.sources.files.items ≡ [] → IsWhole name words call
  pub certificate : map_now call.certificate ≡ words (codes "certificate")
  pub outputs : NamesOutputs words call.outputs
  pub explains : call.explains ≡ flag_named (values (codes "explain"))
  pub short : call.short ≡ flag_named (values (codes "short"))

-- the words, which have no fault by the table of options, ask for this: so the values of the subcommand that they name do
pub record WordsAsk (words : List (List ℕ)) (call : asked.Call) : Type 0 where
  pub taken : AreAccepted words
  pub asks : AsksFor (name_of taken.name) (words_of taken) (values_of taken) (lists_of taken) call

-- the words, which have no fault by the table of options, ask for nothing, with this fault of the values
pub record WordsAskInVain (words : List (List ℕ)) (f : WordsFault) : Type 0 where
  pub taken : AreAccepted words
  pub vain : AskInVain f (name_of taken.name) (words_of taken) (values_of taken)

-- the words, which have no fault by the table of options, have values that can't be read
pub record WordsUnread (words : List (List ℕ)) : Type 0 where
  pub taken : AreAccepted words
  pub unread : AreUnread (name_of taken.name) (words_of taken) (lists_of taken)

-- the words, which have no fault by the table of options, have such values
pub record WordsGive (words : List (List ℕ)) (Gives : Values → Type 0) : Type 0 where
  pub taken : AreAccepted words
  pub gives : Gives (words_of taken)

-- the words have a fault by the table in which the top and the moment may be left out
pub record HaveLooseFault (words : List (List ℕ)) : Type 0 where
  pub app : App
  pub options : AreOptions false app
  pub kind : ErrorKind
  pub among : IsAmong kind (fault_of app words)

-- so they ask for nothing by that table
abbrev pub LooseFails : List (List ℕ) → Type 0
LooseFails words = HaveLooseFault words ⊎ WordsUnread words

-- the words ask for nothing by that table, and have a fault of this kind by the strict one; a call for help or for the version counts among them
pub record HaveFault (words : List (List ℕ)) (k : ErrorKind) : Type 0 where
  pub app : App
  pub options : AreOptions true app
  pub kind : IsAmong k (fault_of app words)
  pub loose : LooseFails words

-- they have a fault of this kind by that table
abbrev pub HaveLooseKind : List (List ℕ) → ErrorKind → Type 0
HaveLooseKind words k = (f : HaveLooseFault words) × (f.kind ≡ k)

-- words that name files, and of which something holds
abbrev pub WithFiles : List (List ℕ) → Type 0 → Type 0
WithFiles words Holds = (names_file 2 words ≡ true) × Holds

-- what a fault of the words says of them; that of a call which names files is one by the table in which the top and the moment may be left out
abbrev pub WordsFail : List (List ℕ) → WordsFault → Type 0
WordsFail words (fault.Refused e) = (kind_of e ≡ OutOfMemory) ⊎ HaveFault words (kind_of e)
WordsFail words (fault.Misused e) = WithFiles words (HaveLooseKind words (kind_of e))
WordsFail words (fault.NoUntil text) = WithFiles words (WordsGive words (GivesNoUntil text.now))
WordsFail words (fault.NoOrder text) = WithFiles words (WordsGive words (GivesNoOrder text.now))
WordsFail words fault.OrderOfCertified = WordsAskInVain words fault.OrderOfCertified
WordsFail words fault.TwoDumps = WordsAskInVain words fault.TwoDumps
WordsFail words fault.Unread = LooseFails words
WordsFail words fault.Memory = Unit {0}

-- what a fault says of words that are read by the table in which the top and the moment may be left out
abbrev pub IsInVain : List (List ℕ) → WordsFault → Type 0
IsInVain words (fault.Refused e) = (kind_of e ≡ OutOfMemory) ⊎ HaveLooseKind words (kind_of e)
IsInVain words (fault.NoUntil text) = WordsGive words (GivesNoUntil text.now)
IsInVain words (fault.NoOrder text) = WordsGive words (GivesNoOrder text.now)
IsInVain words fault.Unread = WordsUnread words
IsInVain words f = WordsFail words f
