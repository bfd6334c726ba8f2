-- What a file without records may be written as.
use Prim.Native.Nat.{ℕ, ◌≤◌, ◌<◌}
use Rattle.std.specs.Prelude.{◌≡◌, ◌≢◌, [], true}
use Rattle.std.proofs.Math.Bool.{false}
use Rattle.meaning.specs.Name.{is_empty}
use Rattle.meaning.specs.Store.{Store, File, root, is_directory, names, held}
use Rattle.soundness.specs.Well.{FileForm}

-- file g, not the root, is to be x; as a directory it has no record that is not blank, neither before nor then;
-- it has a name only if it is then ordinary, and a channel only if it is then in use
pub record Refiled (s : Store) (g : ℕ) (x : File) : Type 0 where
  pub from_one : 0 < g
  pub to_last : g ≤ s.file_count
  pub not_root : g ≢ root
  pub form : FileForm x
  pub deep : x.kind ≡ 2 → 0 < x.depth
  pub was_empty : is_directory s g ≡ true → is_empty (s.file g).bytes ≡ true
  pub is_empty_lem : x.kind ≡ 2 → x.bytes ≡ []
  pub unnamed : x.kind ≢ 1 → names s g ≡ 0
  pub unheld : x.kind ≡ 0 → held s g ≡ false
