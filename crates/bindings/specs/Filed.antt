-- The accessors by a number of their use, frame and property's bytes, so that one is found without a search of its frame: two tables behind the ten of Store. Assumes nothing.
use Rattle.std.specs.Prelude.{List, ℕ, ◌+◌, ◌*◌, ◌%◌, Bool, ◌&&◌, eqb, get_or, drop}
use Rattle.names.specs.Names.{bytes_of}
use Rattle.spelling.specs.Hash.{hash_of}
use Rattle.steps.specs.Bindings.{Binding, Binding.bind}
use Rattle.buckets.specs.Filed as buckets
use Rattle.bindings.specs.Search.{is_accessor}

-- what stands behind the ten tables
abbrev pub behind : (cap : ℕ) → List ℕ → List ℕ
behind cap M = drop (10 * cap) M

-- the bucket of an accessor: the same for properties of the same bytes
abbrev pub bucket_of : (names text : List ℕ) (cap u f x : ℕ) → ℕ
bucket_of names text cap u f x = (hash_of (bytes_of names text x) + 613 * f + u) % cap

-- the accessors of bucket h
unfoldable pub in_bucket : (names text : List ℕ) (cap h : ℕ) → Binding → Bool
in_bucket names text cap h (bind u x f) = is_accessor u && eqb (bucket_of names text cap u f x) h

-- the two tables I are right for the bindings bs: by bucket its last accessor, and by accessor the one before it in its bucket
pub record Filed (names text I : List ℕ) (cap : ℕ) (bs : List Binding) : Type 0 where
  pub tables : buckets.Filed (in_bucket names text cap) (bind 0 0 0) (λ h. get_or I h 0) (λ b. get_or I (cap + b) 0) cap bs
