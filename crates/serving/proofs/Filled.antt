-- A lent buffer whose head is printed: as many bytes of it as the answer counts.
use Rattle.std.proofs.Common.{ℕ, ◌*◌, ◌≤◌, ◌≡◌, sym, List, [], ◌∷◌, ◌++◌, Some, length, take, length-take-le, arith}
use Rattle.std.specs.Prelude.{Result as Answers}
use Rattle.std.specs.Result.{result_unwrap_or}
use Rattle.meaning.specs.Tables.{Tables}
use Rattle.meaning.specs.Run.{Call, width, Promise, result_of, bytes_of}
use Rattle.meaning.specs.Answers.{counted}
use Rattle.meaning.specs.declared.Report.{Report}
use Rattle.text.specs.Lays.{Lays}
use Rattle.text.specs.Print.{printed, newline}
use Rattle.serving.specs.Serves.{Serves}
use Rattle.serving.specs.ServesLaws.{served-bytes}
use Rattle.serving.specs.Shown.{Sized, Shows, shows}

module _ (call : Call) (t : Tables) (buffer : List ℕ) (answer : Answers ℕ Report) (buffer' : List ℕ) (t' : Tables)
    (p : Promise call t buffer (record { answer = counted answer; buffer = buffer'; tables = t' })) (one : width call ≡ 1)
    (size : ℕ) (sized : Sized size (length buffer) (result_of call t)) (n : ℕ) (e : n ≡ size * result_unwrap_or answer 0) where
  shown : Shows answer n buffer buffer' (bytes_of (result_of call t))
  shown = shows call t buffer answer buffer' t' p one size n e sized

  pub within : n ≤ length buffer'
  within = omega (arith, shown.within, shown.same_size)

  pub head : n ≡ length (take n buffer')
  head = sym (length-take-le n buffer' within)

  pub filled : (out : List ℕ) (at : ℕ) (after : List ℕ) (next : ℕ) → Lays out at (printed (counted answer) (take n buffer') ++ newline ∷ []) after next
      → Serves (Some call) t out at t' after next
  filled out at after next l = served-bytes call t buffer (counted answer) buffer' t' p out at after next (take n buffer') shown.same l

-- so many bytes are lent
pub of_count : (c count : ℕ) (lent : List ℕ) → count ≤ length lent → (t : Tables) (out : List ℕ) (at : ℕ) (t' : Tables) (after : List ℕ) (next : ℕ)
    → Serves (Some (Call.Read c (length (take count lent)))) t out at t' after next → Serves (Some (Call.Read c count)) t out at t' after next
of_count c count lent h t out at t' after next s = rw (length-take-le count lent h) at s
