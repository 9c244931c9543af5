-- What the exports promise that write into lent arrays beside their reply. Assumes nothing.
use Rattle.std.specs.Prelude as std
use Rattle.std.specs.Prelude.{◌≡◌, Result, List, ℕ, ◌+◌, ◌≤◌, ◌<◌, ◌^◌, length}
use Rattle.limits.specs.Refusal.{refused, says, says_by, answer}
use Rattle.limits.specs.declared.Refusal.{Refusal}
use Rattle.probe_points.specs.declared.Point.{Point}
use Rattle.bank_spec.specs.Encoding as bank
use Rattle.bank.specs.Build.{BankBuilt}
use Rattle.index.specs.declared.BuiltIndex.{BuiltIndex}
use Rattle.index.specs.Build.{Arrays, IndexBuilt}
use Rattle.search_candidates.specs.Candidates.{Collected, counted}
use Rattle.text_print.specs.Printing.{Wrote, text_max}
use Rattle.listing.specs.Listing.{listing}
use Rattle.simjaldek_abi.specs.declared.Reply.{Reply}
use Rattle.simjaldek_abi.specs.declared.TextReply.{TextReply}
use Rattle.simjaldek_abi.specs.Slices.{row_in, points_in, points_row_refusal}
use Rattle.simjaldek_abi.specs.Reply.{refused_reply, option_reply, number_reply, index_reply, text_reply}

-- 01, Agreed: the result and the final contents of every array: an answer of `build_index` with its own promise, and the reply is that answer by numbers
pub record Indexed (w count : ℕ) (rows : List ℕ) (L : ℕ) (old new : Arrays) (r : Reply) : Type 0 where
  pub call : Result BuiltIndex Refusal
  pub promise : IndexBuilt w count rows L old new call
  pub told : r ≡ index_reply (says call)

-- the same of `collect_mul_probe0_candidates`
pub record Listed (w n : ℕ) (rows order : List ℕ) (p t : ℕ) (old new : List ℕ) (r : Reply) : Type 0 where
  pub call : Result (std.Option ℕ) Refusal
  pub promise : Collected w n rows order p t old new call
  pub told : r ≡ option_reply (says_by counted call)

-- the same of `build_bank`, where the points and the target are long enough
pub record Banked (nv w : ℕ) (points : List Point) (target : List ℕ) (old new : bank.Arrays) (old_work newWork : List ℕ) (r : Reply) : Type 0 where
  pub call : Result ℕ Refusal
  pub promise : BankBuilt nv w points target old new old_work newWork call
  pub told : r ≡ number_reply (says call)

-- 01, Turned back: no buffer changes
pub record Untouched (number : ℕ) (old new : bank.Arrays) (old_work newWork : List ℕ) (r : Reply) : Type 0 where
  pub arrays : new ≡ old
  pub work : newWork ≡ old_work
  pub told : r ≡ refused_reply number

-- 01, Agreed: the result and the final contents of every array, of a bank build with its points and its target as slices
pub record BankReplied (nv w : ℕ) (points target : List ℕ) (old new : bank.Arrays) (old_work newWork : List ℕ) (r : Reply) : Type 0 where
  pub early : 0 < points_row_refusal nv w points target → Untouched (points_row_refusal nv w points target) old new old_work newWork r
  pub built : points_row_refusal nv w points target ≡ 0 → Banked nv w (points_in points) (row_in target) old new old_work newWork r

-- a text laid from the buffer's start on: the reply is its length, and it fits
pub record TextLaid (out out' : List ℕ) (r : TextReply) (text : List ℕ) : Type 0 where
  pub told : r ≡ text_reply (answer (length text))
  pub fits : length text ≤ text_max
  pub wrote : Wrote out 0 out' (length text) text

-- 01, Listing program: the listing of a whole text, laid from the buffer's start on; a buffer shorter than 131,072 is refused 4 and stays as it is
pub record Texted (text out out' : List ℕ) (r : TextReply) : Type 0 where
  pub short : length out < text_max → (r ≡ text_reply (refused 4)) × (out' ≡ out)
  pub written : text_max ≤ length out → length text + 1 < 2 ^ 64 → TextLaid out out' r (listing text)
