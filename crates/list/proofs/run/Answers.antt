-- `list::run` writes the listing of the text that it reads: the call lays it from the buffer's start on. Assumes nothing.
use Rattle.std.proofs.Common.{◌≡◌, ℕ, ◌+◌, ◌^◌, ◌<◌, ◌≤◌, Bool, true, List, length, take, drop, arith, rules}
use Rattle.std.specs.Prelude.{None, Some, Ok, IfSome, ◌↔◌}
use Rattle.std.specs.Io.KnownBytes.{Appends}
use Rattle.std.specs.declared.option.Option.{Option}
use Rattle.std.proofs.Math.Seq.{take-append_seam, length-sets}
use Rattle.std.proofs.lemmas.List.Edits.{sets, sets-eq}
use Rattle.text_parse.specs.declared.Parse.{Parse}
use Rattle.text_parse.specs.Reading.{Reads}
use Rattle.listing.specs.Listing.{listing, Listed, Laid}
use Rattle.list.proofs.run.Goals as goal

-- a text that is laid from the start on is what stands there
laid_taken : (out t : List ℕ) → length t ≤ length out → take (length t) (sets out 0 t) ≡ t
laid_taken out t h = let fits : 0 + length t ≤ length out = omega (arith, h) in rw (sets-eq t out 0 fits) (take-append_seam t (drop (0 + length t) out))

-- the bytes of the answer's length, which all are written, are the listing
listed : (known old new : Option (List ℕ)) {p : Parse} {out out' : List ℕ} {n : ℕ} {done : Bool} → length out ≡ 131072
    → IfSome known (λ text. length text < 2 ^ 64 → Reads p text)
    → Listed p out out' (Ok n)
    → (done ≡ true ↔ n ≤ length out')
    → (done ≡ true → Appends old new (take n out'))
    → IfSome known (λ text. length text + 1 < 2 ^ 64 → Appends old new (listing text))
listed None old new room reads w all bytes = tt
listed (Some text) old new {out = out} {out' = out'} {n = n} room reads w all bytes = λ small.
    let laid : Laid out out' (Ok n) (listing text) = w.written (omega (arith, room)) text small (reads (omega arith)) in
    let long : n ≡ length (listing text) = grind (arith, laid.says) in
    let here : take n out' ≡ listing text = rw (long, laid.wrote.laid) (laid_taken out (listing text) (omega (arith, laid.fits, room))) in
    let wide : length out' ≡ length out = rw laid.wrote.laid (length-sets out 0 (listing text)) in
    rw here at (bytes (all.1 (omega (arith, long, laid.fits, wide, room))))

pub returns-in_ok-write_text-in-Ok : goal.returns-in_ok-write_text-in-Ok
returns-in_ok-write_text-in-Ok g c =
    listed (g.R.Read.remaining c.args.reader.now) (g.W.Write.contents c.args.writer.now) (g.W.Write.contents c.write_text.new.writer) (search rules) c.in_ok-p.ensures c.in-Ok.ensures c.in_ok-write_text-in-Ok.ensures.all c.in_ok-write_text-in-Ok.ensures.bytes
