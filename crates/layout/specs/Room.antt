-- No change moves the counts of a store.
use Rattle.std.specs.Prelude.{◌≡◌, refl}
use Rattle.meaning.specs.Store.{Store, Change, file, channel, prepared, after}

pub same_blocks : (s : Store) (change : Change) → (after s change).block_count ≡ s.block_count
unfolding after
same_blocks s (file f x) = refl
same_blocks s (channel c y) = refl
same_blocks s prepared = refl

pub same-files : (s : Store) (change : Change) → (after s change).file_count ≡ s.file_count
unfolding after
same-files s (file f x) = refl
same-files s (channel c y) = refl
same-files s prepared = refl
