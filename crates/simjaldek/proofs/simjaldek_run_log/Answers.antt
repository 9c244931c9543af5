-- `simjaldek_run_log` meets its contract: what is taken of the log out of its numbers, or beside a refusal the log as it was lent. Assumes nothing.
use mathlib.Core.Path.{◌≡◌, sym, ap, ◌∙◌}
use mathlib.Core.List.{List}
use Prim.Native.Nat.{ℕ}
use Rattle.std.specs.Prelude.{Result, Ok, Err}
use Rattle.limits.specs.Refusal.{number_of}
use Rattle.limits.specs.declared.Refusal.{Refusal}
use Rattle.limits.proofs.Answers.{number-positive}
use Rattle.limits.proofs.Refusals.{unless_refused_lem}
use Rattle.log_run.specs.declared.Shown.{Shown}
use Rattle.log_run.specs.Step.{Reply}
use Rattle.log_run.specs.Steps.{took_of, took_says}
use Rattle.simjaldek_abi.specs.declared.LogState.{LogState}
use Rattle.simjaldek_abi.specs.declared.LogReply.{LogReply}
use Rattle.simjaldek_abi.specs.Reply.{log_of, log_state, log_reply}
use Rattle.simjaldek.proofs.simjaldek_run_log.Goals as goal

-- what the log says where these windows are left and this was taken
abbrev said : LogState → List ℕ → Result Shown Refusal → Reply
said log after x = took_says (log_of log) after (took_of (log_of log).shown x)

pub returns-in-Ok : goal.returns-in-Ok
returns-in-Ok c =
    let a = c.args in
    let numbers : ℕ → LogState =
    (λ o. record { «open» = o; rank = c.in-Ok.shown.rank; number = c.in-Ok.shown.number; closed_at = c.in-Ok.shown.close; later = c.in-Ok.shown.later; windows = c.take-x.new.seen }) in
    let reply : ◌≡◌ {A = LogReply} (record { refusal = 0; log = numbers c.mark_of.result }) (log_reply a.log (said a.log c.take-x.new.seen (Ok c.in-Ok.shown))) = (λ i. record { refusal = 0; log = numbers (c.mark_of.ensures i) }) in
    reply ∙ ap (λ (x : Result Shown Refusal). log_reply a.log (said a.log c.take-x.new.seen x)) (sym c.in-Ok.is) ∙ ap (log_reply a.log) c.take-x.ensures

pub returns-in-Err : goal.returns-in-Err
returns-in-Err c =
    let a = c.args in
    let n = number_of c.in-Err.refusal in
    let same = sym (unless_refused_lem n (log_state (said a.log c.take-x.new.seen (Err c.in-Err.refusal)).log) a.log (number-positive c.in-Err.refusal)) in
    let reply : ◌≡◌ {A = LogReply} (record { refusal = c.from.result; log = a.log }) (log_reply a.log (said a.log c.take-x.new.seen (Err c.in-Err.refusal))) = (λ i. record { refusal = c.from.ensures i; log = same i }) in
    reply ∙ ap (λ (x : Result Shown Refusal). log_reply a.log (said a.log c.take-x.new.seen x)) (sym c.in-Err.is) ∙ ap (log_reply a.log) c.take-x.ensures
