-- What follows on the two names of link: its causes in their order, and its changes where none holds.
use Rattle.std.specs.Prelude.{ℕ, ◌≡◌, refl, List, [], ◌∷◌, true}
use Rattle.std.proofs.Math.Option.{some}
use Rattle.std.proofs.Common.{◌∙◌, le-ltb}
use Rattle.meaning.specs.File.{longest}
use Rattle.meaning.specs.Name.{syllables}
use Rattle.meaning.specs.Store.{file, after, is_directory, free_blocks, named, let_go}
use Rattle.meaning.specs.Tables.{Tables, store_of}
use Rattle.meaning.specs.Sound.{sound}
use Rattle.meaning.specs.Result.{Result, refused, done, unless, with_syllables, missing, nowhere, if_fits}
use Rattle.meaning.specs.NameCalls.{parent, naming, if_naming_fits, link}
use Rattle.meaning.specs.Run.{Call, result_of, meaning, accepts}
use Rattle.meaning.specs.declared.Report.{Report}
use Rattle.meaning.specs.declared.Report.TheVariants.{NoSuchName, IsDirectory}
use Rattle.trees.specs.Naming.{with_name}
use Rattle.linking.specs.Names.{on_names}
use Rattle.linking.specs.Link.{Accepted}
use Rattle.linking.specs.declared.Plan.{Plan}

-- what follows on both names is what the call gives
pub follows : (t : Tables) (old new : List ℕ) (from to : List (List ℕ)) → sound t ≡ true → syllables old ≡ some from → syllables new ≡ some to
    → (rest : List (List ℕ) → List (List ℕ) → Result) → rest from to ≡ on_names t old new rest
unfolding on_names unless with_syllables
follows t old new from to ok is is' rest = rw (ok, is, is')

-- what follows on the names of link
abbrev pub link_rest : Tables → List (List ℕ) → List (List ℕ) → Result
link_rest t from to =
    let s = store_of t in
    let dir = naming s to (named s from) in
    unless (missing s from) NoSuchName
    (unless (is_directory s (named s from)) IsDirectory
    (unless (nowhere s to) NoSuchName
    (unless (is_directory s (named s to)) IsDirectory
    (if_naming_fits s to dir
    (done [] [] (file (parent s to) dir ∷ let_go (after s (file (parent s to) dir)) (named s to)))))))

pub on_link : (t : Tables) (old new : List ℕ) → on_names t old new (link_rest t) ≡ result_of (Call.Link old new) t
unfolding result_of meaning accepts link on_names
on_link t old new = refl

pub link-refusal : (t : Tables) (old new : List ℕ) (why : Report) → ((rest : List (List ℕ) → List (List ℕ) → Result) → refused why ≡ on_names t old new rest)
    → refused why ≡ result_of (Call.Link old new) t
link-refusal t old new why e = e (link_rest t) ∙ on_link t old new

-- where no cause holds, link gives its changes
pub link_on : (t : Tables) (old new : List ℕ) (p : Plan) (a : Accepted t old new p)
    → done [] [] (file (parent (store_of t) a.new-name.name) (naming (store_of t) a.new-name.name (named (store_of t) a.old-name.name))
    ∷ let_go (with_name (store_of t) a.new-name.name (named (store_of t) a.old-name.name)) (named (store_of t) a.new-name.name))
    ≡ result_of (Call.Link old new) t
unfolding unless if_naming_fits if_fits
link_on t old new p a =
    rw (a.there, a.ordinary, a.here, a.plain, le-ltb longest _ a.size, le-ltb (free_blocks (store_of t)) _ a.room)
    at (follows t old new a.old-name.name a.new-name.name a.ok a.old-name.is a.new-name.is (link_rest t) ∙ on_link t old new)
