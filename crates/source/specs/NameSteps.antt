-- The source's state where a name is given to a file, or taken: the name store as createNS and destroyNS say, and in the file
-- store no file changed but the name's directory.
use Rattle.std.specs.Prelude.{ℕ, ◌<◌, ◌≡◌, refl, ◌≢◌, List, Bool, true, false, length}
use Rattle.std.proofs.Common.{ap, sym, ◌∙◌, ⊎_elim, arith}
use Rattle.std.proofs.Math.Path.{fun_ext}
use Rattle.std.proofs.Math.Option.{none, some}
use Rattle.records.specs.Rows.{pick}
use Rattle.records.specs.Tests.{not_so}
use Rattle.meaning.specs.Name.{Entry, entry, is_syllable, written, entry_in, blank_record, is_blank}
use Rattle.meaning.specs.Store.{Store, File, in_use, is_directory, named, last}
use Rattle.meaning.specs.NameCalls.{parent, record_for, rewritten, naming, unnaming}
use Rattle.soundness.specs.Use.{directory_used}
use Rattle.soundness.specs.Well.{Well}
use Rattle.soundness.specs.WellFacts.{blank_file, naming_record}
use Rattle.trees.specs.Rewrite.{Rewriting, with_record, other-file, kind-same, use_same, directory-same}
use Rattle.trees.specs.Lookups.{KeepsDirectories}
use Rattle.trees.specs.Entries.{naming_syllable}
use Rattle.trees.specs.Standing.{Place}
use Rattle.trees.specs.Naming.{with_name, without_name, blank_entry, naming-entry, naming_keeps, unnaming_keeps}
use Rattle.trees.proofs.Given.{named-given, named_beside, named-taken, named-left}
use Rattle.source.specs.Sets.{◌∈dom◌, ◌⊕◌, ◌⩤◌, ◌⟼◌, the_name}
use Rattle.source.specs.Naming.{NAME}
use Rattle.source.specs.View.{numbered, view}
use Rattle.source.specs.ViewLaws.{numbered_some, numbered_none, file_there, file_used, same-name_or_not, renamed, unnamed}
use Rattle.source.specs.StepLaws.{file-channels}
use Rattle.source.specs.NamedBy.{record_of_lem}
use Rattle.source.specs.Tree.{Tree}
use Rattle.source.specs.Renamed.{others_same, tree_after}

-- t is s with directory d written anew: no other file changed, directories keep their names
pub record Rewritten (s t : Store) (d : ℕ) : Type 0 where
  pub tree : Tree t
  pub directories : (view t).dnames ≡ (view s).dnames
  pub channels : (view t).cstore ≡ (view s).cstore
  pub kinds : (f : ℕ) → (t.file f).kind ≡ (s.file f).kind
  pub uses : (f : ℕ) → in_use t f ≡ in_use s f
  pub dirs : (f : ℕ) → is_directory t f ≡ is_directory s f
  pub files : (f : ℕ) → f ≢ d → (view t).fstore f ≡ (view s).fstore f
  pub kept : (f : ℕ) → f ∈dom (view s).fstore → f ∈dom (view t).fstore

module _ (s : Store) (n : NAME) (r : List ℕ) (k : KeepsDirectories s (parent s n) (record_for s n) r) where
  abbrev d : ℕ
  d = parent s n

  abbrev t : Store
  t = with_record s d (record_for s n) r

  z : Rewriting s d (record_for s n) r
  z = k.rewriting

  pub rewritten_facts : Tree t → is_directory s (named s n) ≡ false → is_directory s (named t n) ≡ false → ((m : NAME) → m ≢ n → named t m ≡ named s m) → Rewritten s t d
  rewritten_facts tree was is others =
      record {
        tree = tree;
        directories = fun_ext (λ (m : NAME). directory-same s d (record_for s n) r z (named t m) ∙ same m);
        channels = file-channels s d (rewritten s d (record_for s n) r);
        kinds = kind-same s d (record_for s n) r z;
        uses = use_same s d (record_for s n) r z;
        dirs = directory-same s d (record_for s n) r z;
        files = λ f o.
            let same-file = other-file s d (record_for s n) r z f o in
            ap (λ (u : Bool). pick u (some (t.file f).bytes) none) (use_same s d (record_for s n) r z f) ∙ ap (λ (x : File). pick (in_use s f) (some x.bytes) none) same-file;
        kept = λ f h. ((t.file f).bytes, file_there t f (use_same s d (record_for s n) r z f ∙ file_used s f h));
      }
    where
      same : (m : NAME) → is_directory s (named t m) ≡ is_directory s (named s m)
      same m =
          ⊎_elim
          (λ (e : m ≡ n). ap (λ (l : NAME). is_directory s (named t l)) e ∙ is ∙ sym was ∙ ap (λ (l : NAME). is_directory s (named s l)) (sym e))
          (λ (o : m ≢ n). ap (is_directory s) (others m o))
          (same-name_or_not m n)

-- ---- name n given to file f

module _ (s : Store) (w : Well s) (n : NAME) (more : 0 < length n) (p : Place s n) (f : ℕ) (small : f < 65536) (some_file : f ≢ 0)
    (plain : is_directory s (named s n) ≡ false) (plainly : is_directory s f ≡ false) where
  abbrev given : Store
  given = with_name s n f

  abbrev r : List ℕ
  r = written (entry f (last n))

  keeps : KeepsDirectories s (parent s n) (record_for s n) r
  keeps = naming_keeps s n p f small plain

  its_entry : entry_in r ≡ entry f (last n)
  its_entry = naming-entry s n p f small

  mine : (entry_in r).file ≢ 0 → (entry_in r).name ≡ last n
  mine h = ap (λ (e : Entry). e.name) its_entry

  its_file : named given n ≡ f
  its_file = named-given s n p f small plain more

  pub given_others : (m : NAME) → m ≢ n → named given m ≡ named s m
  unfolding naming
  given_others = others_same s w n more r keeps mine (ap (is_directory s) its_file ∙ plainly) (named_beside s n p f small plain)

  pub given-names : (view given).nstore ≡ (view s).nstore ⊕ the_name n ⟼ f
  given-names =
      renamed (view s).nstore (view given).nstore n (λ m o. ap numbered (given_others m o)) f
      (ap numbered its_file ∙ numbered_some f some_file)

  pub given_facts : Rewritten s given (parent s n)
  unfolding naming
  given_facts =
      rewritten_facts s n r keeps
      (tree_after s w n more r keeps mine (λ h j l. rw its_entry (p.others j (omega (arith, p.within)) (omega arith))))
      plain (ap (is_directory s) its_file ∙ plainly) given_others

-- ---- name n taken

-- the last syllable of a name that stands for something is one
pub last_syllable : (s : Store) → Well s → (m : NAME) → 0 < length m → named s m ≢ 0 → is_syllable (last m) ≡ true
last_syllable s w m more there =
    let (q, q-in, q-last) = record_of_lem s (named s m) m more refl there in
    let dir = (s.file q.d).bytes in
    let used : is_blank dir q.i ≡ false = not_so (is_blank dir q.i) (λ b. there (sym q.file ∙ blank_file dir q.i b)) in
    rw q-last at (naming_syllable s dir q.i (naming_record s w q.d q.i q.directory q.within used))

module _ (s : Store) (w : Well s) (n : NAME) (more : 0 < length n) (p : Place s n) (plain : is_directory s (named s n) ≡ false) where
  abbrev left : Store
  left = without_name s n

  taking : KeepsDirectories s (parent s n) (record_for s n) blank_record
  taking = unnaming_keeps s n p w plain

  blank_mine : (entry_in blank_record).file ≢ 0 → (entry_in blank_record).name ≡ last n
  blank_mine h = absurd (h (ap (λ (e : Entry). e.file) blank_entry))

  gone : named left n ≡ 0
  gone = named-taken s w n p plain more

  nowhere : is_directory s (named left n) ≡ false
  nowhere = not_so (is_directory s (named left n)) (λ is. omega (arith, (directory_used s (named left n) is).some, gone))

  pub left_others : (m : NAME) → m ≢ n → named left m ≡ named s m
  unfolding unnaming
  left_others =
      others_same s w n more blank_record taking blank_mine nowhere
      (λ m also there apart. named-left s w n p plain m also (last_syllable s w m also there) there apart)

  pub left-names : (view left).nstore ≡ the_name n ⩤ (view s).nstore
  left-names = unnamed (view s).nstore (view left).nstore n (λ m o. ap numbered (left_others m o)) (numbered_none (named left n) gone)

  pub left_facts : Rewritten s left (parent s n)
  unfolding unnaming
  left_facts =
      rewritten_facts s n blank_record taking
      (tree_after s w n more blank_record taking blank_mine (λ h. absurd (h (ap (λ (e : Entry). e.file) blank_entry))))
      plain nowhere left_others
