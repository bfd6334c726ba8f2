-- An answer is known by what it stands for.
use Rattle.std.specs.Prelude.{ℕ, ◌≡◌, ◌≢◌, refl, List, [], ◌∷◌, length, get_or, Bool, true, false, eqb, Result, Ok, Err}
use Rattle.std.proofs.Common.{ap, sym, ◌∙◌, arith, eq-eqb, ne_eqb, ⊎_elim, true≢false}
use Rattle.records.specs.Tests.{same_or_not}
use Rattle.records.specs.Rows.{pick}
use Rattle.meaning.specs.Run.{accepted, refusal, number_of}
use Rattle.meaning.specs.Answers.{answered, reported, opened, counted, sought, stat_of, space_of}
use Rattle.meaning.proofs.Determined.{same_report}
use Rattle.meaning.specs.declared.Report.{Report}
use Rattle.meaning.specs.declared.ChannelNo.{ChannelNo}
use Rattle.meaning.specs.declared.FileNo.{FileNo}
use Rattle.meaning.specs.Types.{kind_number}
use Rattle.meaning.specs.declared.Kind.{Kind}
use Rattle.meaning.specs.declared.Kind.TheVariants.{Free, File, Directory}
use Rattle.meaning.specs.declared.Stat.{Stat}
use Rattle.meaning.specs.declared.Space.{Space}

-- a refusal is known by its row, which no accepted call with numbers has
refusal_report : (n : ℕ) (a b : Report) → refusal n a ≡ refusal n b → a ≡ b
unfolding refusal
refusal_report n a b e = same_report a b (cc)

pub never_accepted : (n k : ℕ) (ns : List ℕ) (why : Report) → accepted (k ∷ ns) ≡ refusal n why → ⊥
unfolding refusal number_of
never_accepted n k ns why e =
    let ok : number_of why ≡ 0 = cc in
    let bare : 0 ∷ k ∷ ns ≡ number_of why ∷ [] = rw (eq-eqb (number_of why) 0 ok) at e in
    let z : ◌≡◌ {A = ℕ} 0 1 = cc in
    omega arith

same_channel : (c d : ChannelNo) → c.0 ≡ d.0 → c ≡ d
same_channel c d e = λ i. record { 0 = e i }

same-file : (f g : FileNo) → f.0 ≡ g.0 → f ≡ g
same-file f g e = λ i. record { 0 = e i }

-- the numbers of an accepted call, and its report alone, are known too
accepted_numbers : (ms ns : List ℕ) → accepted ms ≡ accepted ns → ms ≡ ns
accepted_numbers ms ns e = cc

module _ {A : Type 0} (n : ℕ) (numbers : A → List ℕ) (first : A → ℕ) (others : A → List ℕ) (some : (a : A) → numbers a ≡ first a ∷ others a) (known : (a b : A) → numbers a ≡ numbers b → a ≡ b) where
  never : (a : A) (why : Report) → accepted (numbers a) ≡ refusal n why → ⊥
  never a why e = never_accepted n (first a) (others a) why (rw (some a) at e)

  answered_one : (a b : Result A Report) → answered n numbers a ≡ answered n numbers b → a ≡ b
  answered_one (Ok a) (Ok b) e = ap Ok (known a b (accepted_numbers _ _ e))
  answered_one (Ok a) (Err why) e = absurd (never a why e)
  answered_one (Err why) (Ok a) e = absurd (never a why (sym e))
  answered_one (Err why) (Err other) e = ap Err (refusal_report n why other e)

-- a call that answers its report alone: an Err of Ok has no row
row : Bool → ℕ → List ℕ
row t n = pick t [] (n ∷ pick t [] [])

zero_of : (n : ℕ) → eqb n 0 ≡ true → n ≡ 0
zero_of n e =
    ⊎_elim
    (λ (z : n ≡ 0). z)
    (λ (d : n ≢ 0). let z : true ≡ false = sym e ∙ ne_eqb n 0 d in absurd (true≢false z))
    (same_or_not n 0)

accepted_alone : (n : ℕ) (t : Bool) → eqb n 0 ≡ t → 0 ∷ [] ≡ row t n → ⊥
unfolding row
accepted_alone n true is e = let z : ◌≡◌ {A = ℕ} 1 0 = ap length e in absurd (omega arith)
accepted_alone n false is e =
    let zero : n ≡ 0 = cc in
    let z : true ≡ false = sym (eq-eqb n 0 zero) ∙ is in
    absurd (true≢false z)

row_known : (m n : ℕ) (s t : Bool) → eqb m 0 ≡ s → eqb n 0 ≡ t → row s m ≡ row t n → m ≡ n
unfolding row
row_known m n true true p q e = zero_of m p ∙ sym (zero_of n q)
row_known m n true false p q e = let z : ◌≡◌ {A = ℕ} 0 1 = ap length e in absurd (omega arith)
row_known m n false true p q e = let z : ◌≡◌ {A = ℕ} 1 0 = ap length e in absurd (omega arith)
row_known m n false false p q e = cc

pub reported-one : (a b : Result (Unit {0}) Report) → reported a ≡ reported b → a ≡ b
unfolding refusal row number_of
reported-one (Ok a) (Ok b) e = refl
reported-one (Ok a) (Err why) e = absurd (accepted_alone (number_of why) _ refl e)
reported-one (Err why) (Ok a) e = absurd (accepted_alone (number_of why) _ refl (sym e))
reported-one (Err why) (Err other) e = ap Err (same_report why other (row_known (number_of why) (number_of other) _ _ refl refl e))

pub opened_one : (a b : Result ChannelNo Report) → opened a ≡ opened b → a ≡ b
opened_one = answered_one 1 (λ c. c.0 ∷ []) (λ c. c.0) (λ _. []) (λ c. refl) (λ c d e. same_channel c d (cc))

pub counted-one : (a b : Result ℕ Report) → counted a ≡ counted b → a ≡ b
counted-one = answered_one 1 (λ n. n ∷ []) (λ n. n) (λ _. []) (λ n. refl) (λ m n e. cc)

pub sought-one : (a b : Result ℕ Report) → sought a ≡ sought b → a ≡ b
sought-one = counted-one

kinds : List Kind
kinds = Free ∷ File ∷ Directory ∷ []

kind_at : (k : Kind) → get_or kinds (kind_number k) Free ≡ k
unfolding kinds
kind_at Free = refl
kind_at File = refl
kind_at Directory = refl

same_kind : (k l : Kind) → kind_number k ≡ kind_number l → k ≡ l
same_kind k l e = sym (kind_at k) ∙ ap (λ n. get_or kinds n Free) e ∙ kind_at l

same_stat : (s t : Stat) → s.length ∷ s.file.0 ∷ kind_number s.kind ∷ [] ≡ t.length ∷ t.file.0 ∷ kind_number t.kind ∷ [] → s ≡ t
same_stat s t e =
    let size : s.length ≡ t.length = cc in
    let file = same-file s.file t.file (cc) in
    let kind = same_kind s.kind t.kind (cc) in
    λ i. record { length = size i; file = file i; kind = kind i }

same_space : (s t : Space) → s.blocks ∷ s.files ∷ s.channels ∷ [] ≡ t.blocks ∷ t.files ∷ t.channels ∷ [] → s ≡ t
same_space s t e =
    let blocks : s.blocks ≡ t.blocks = cc in
    let files : s.files ≡ t.files = cc in
    let channels : s.channels ≡ t.channels = cc in
    λ i. record { blocks = blocks i; files = files i; channels = channels i }

pub stat_one : (a b : Result Stat Report) → stat_of a ≡ stat_of b → a ≡ b
stat_one = answered_one 3 (λ s. s.length ∷ s.file.0 ∷ kind_number s.kind ∷ []) (λ s. s.length) (λ s. s.file.0 ∷ kind_number s.kind ∷ []) (λ s. refl) same_stat

pub space-one : (a b : Result Space Report) → space_of a ≡ space_of b → a ≡ b
space-one = answered_one 3 (λ s. s.blocks ∷ s.files ∷ s.channels ∷ []) (λ s. s.blocks) (λ s. s.files ∷ s.channels ∷ []) (λ s. refl) same_space
