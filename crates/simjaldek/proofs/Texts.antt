-- The listing of a whole text, which is read in one part. Assumes nothing.
use mathlib.Core.Path.{◌≡◌, ap, ◌∙◌}
use mathlib.Core.List.{List}
use Prim.Native.Nat.{ℕ, ◌<◌, ◌^◌}
use native.Mathlib.Omega.{arith}
use lib.ListN.{length}
use Rattle.text_parse.specs.declared.Parse.{Parse}
use Rattle.text_parse.specs.Reading.{Reads}
use Rattle.std.specs.Prelude.{Result}
use Rattle.limits.specs.declared.Refusal.{Refusal}
use Rattle.limits.specs.Refusal.{says}
use Rattle.listing.specs.Listing.{Listed}
use Rattle.simjaldek_abi.specs.declared.TextReply.{TextReply}
use Rattle.simjaldek_abi.specs.Reply.{text_reply}
use Rattle.simjaldek.specs.Beside.{Texted}

-- the answer by numbers
abbrev pub answer_text : Result ℕ Refusal → TextReply
answer_text call = text_reply (says call)

-- that of a refusal
abbrev pub refused_text : ℕ → TextReply
refused_text n = record { refusal = n; length = 0 }

-- what a listing of a reading promises it promises of the text that was read
pub texted : (text out out' : List ℕ) (p : Parse) (call : Result ℕ Refusal) (r : TextReply)
    → (length text < 2 ^ 64 → Reads p text)
    → Listed p out out' call
    → r ≡ answer_text call
    → Texted text out out' r
texted text out out' p call r read l e = record {
  short = λ h. (e ∙ ap text_reply (l.short h).0, (l.short h).1);
  written = λ h k.
      let laid = l.written h text k (read (omega (arith, k))) in
      record { told = e ∙ ap text_reply laid.says; fits = laid.fits; wrote = laid.wrote };
}
