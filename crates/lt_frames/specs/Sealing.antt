-- Seals, and the numbers of services.
use Rattle.std.specs.Prelude.{ℕ, Bool, true, false, List, [], ◌∷◌, ◌++◌, take, ◌==◌, if◌then◌else◌}
use Rattle.std.specs.Int.{w64, to_le_bytes, from_le_bytes}
use Rattle.sha2.specs.Sha256.{sha256}
use Rattle.lt_frames.specs.declared.frame.TheConstants.{SEAL}

-- the first 16 bytes of the digest of the key and of what is sealed
abbrev pub seal_of : List ℕ → List ℕ → List ℕ
seal_of key sealed = take SEAL (sha256 (key ++ sealed))

-- the first 8 bytes of the digest of the script's text and the number of the start, as a number
abbrev pub service_number : List ℕ → ℕ → ℕ
service_number text start = from_le_bytes w64 (take 8 (sha256 (text ++ to_le_bytes w64 start)))

-- whether two lists are the same
abbrev pub same_bytes : List ℕ → List ℕ → Bool
same_bytes [] [] = true
same_bytes [] (y ∷ ys) = false
same_bytes (x ∷ xs) [] = false
same_bytes (x ∷ xs) (y ∷ ys) = if x == y then same_bytes xs ys else false
