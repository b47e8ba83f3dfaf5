-- Lemmas on proposals.
use Rattle.std.proofs.Common.{◌≡◌, ◌∙◌, ℕ, List, [], ◌++◌, Option, Some, None, ap, append-nil, append_assoc, drop, subst, sym, take, take-append-drop}
use Rattle.std.specs.Io.KnownBytes.{Appends, append_known}
use Rattle.vs_sign_off.specs.vs_vcd_writing.specs.Sinks.{AppendsPart}
use Rattle.vs_program_words.specs.vs_certificate.specs.declared.members.Certificate.{Certificate}
use Rattle.vs_program_words.specs.vs_certificate.specs.Reading as certificates
use Rattle.vs_program_words.specs.vs_certificate.specs.declared.members.ClaimedGrain.{ClaimedGrain}
use Rattle.vs_program_words.specs.vs_certificate.specs.declared.members.Rules.{Rules}
use Rattle.vs_design.specs.Parts.{Parts}
use Rattle.vs_sign_off.specs.vs_propose.specs.Proposals.{IsProposalBy}
use Rattle.vs_sign_off.specs.vs_propose.specs.declared.proposal.Proposal.{Proposal}
use Rattle.vs_sign_off.specs.vs_propose.specs.declared.proposal.Proposal.TheVariants.{Made, NotMade}
use Rattle.vs_program.specs.Texts.{ReadsBack}
use Rattle.vs_program.specs.passes.Proposing.{IsShort}

-- what is proposed reads back, where it is short enough
pub reads_back : (rules : Rules) (d : Parts) (grain : ClaimedGrain) (p : Proposal) → ((c : Certificate) → certificates.ReadsBack c) → IsProposalBy rules d grain p → IsShort p → ReadsBack rules p
reads_back rules d grain (Made c) law is short = record { json = (law c is.own_words is.sound.limits short).json; sound = is.sound }
reads_back rules d grain (NotMade r) law is short = tt

-- a line of which a front was written
front_written : (a b : Option (List ℕ)) (line : List ℕ) (n : ℕ) → Appends a b (take n line) → Appends a (append_known b (drop n line)) line
front_written None b line n h = tt
front_written (Some x) None line n h = absurd h
front_written (Some x) (Some y) line n h =
    ap (λ (l : List ℕ). l ++ drop n line) h ∙ append_assoc x (take n line) (drop n line) ∙ ap (λ (l : List ℕ). x ++ l) (take-append-drop n line)

whole_written : (a b : Option (List ℕ)) (line : List ℕ) → Appends a b line → Appends a (append_known b []) line
whole_written None b line h = tt
whole_written (Some x) None line h = absurd h
whole_written (Some x) (Some y) line h = append-nil y ∙ h

-- a line that a writer took, by way of a sink that counts what fails
pub line_whole : (a b c d : Option (List ℕ)) (line : List ℕ) → b ≡ a → d ≡ c → Appends b c line → Appends a (append_known d []) line
line_whole a b c d line begun ended h =
    subst (λ (x : Option (List ℕ)). Appends x (append_known d []) line) begun
    (subst (λ (y : Option (List ℕ)). Appends b (append_known y []) line) (sym ended) (whole_written b c line h))

pub line_part : (a b c d : Option (List ℕ)) (line : List ℕ) → b ≡ a → d ≡ c → (h : AppendsPart b c line) → Appends a (append_known d (drop h.0 line)) line
line_part a b c d line begun ended h =
    subst (λ (x : Option (List ℕ)). Appends x (append_known d (drop h.0 line)) line) begun
    (subst (λ (y : Option (List ℕ)). Appends b (append_known y (drop h.0 line)) line) (sym ended) (front_written b c line h.0 h.1))

-- a line that was written, where a writer is another one that holds the same
pub line_there : (a b c d : Option (List ℕ)) (line there lost : List ℕ) → b ≡ a → d ≡ c → there ≡ line → Appends b (append_known c lost) there
    → Appends a (append_known d lost) line
line_there a b c d line there lost begun ended same h =
    subst (λ (l : List ℕ). Appends a (append_known d lost) l) same (subst (λ (x : Option (List ℕ)). Appends x (append_known d lost) there) begun
    (subst (λ (y : Option (List ℕ)). Appends b (append_known y lost) there) (sym ended) h))
