-- No stream is open before the program has asked to open one.
use Rattle.std.proofs.Common.{◌≡◌, ℕ, List, [], ◌∷◌, true, false, refl, ap, sym, ◌∙◌}
use Rattle.tu_base.specs.Files.{Files}
use Rattle.rv_isa.specs.declared.service.Service.{Service}
use Rattle.rv_isa.specs.declared.service.Service.TheVariants.{End, Stop, PutConsole, GetConsole, Open, Close, PutStream, GetStream, State}
use Rattle.rv_isa.specs.Memory.{Memory}
use Rattle.rv_image.specs.Streams.{Holding, Stream, Free, Reading, Writing, World, Served, stream, got, opens, closes, puts, gets, served, bytes_at}
use Rattle.rv_host.specs.Served.{IsClosed, world_of}
use Rattle.rv_host.proofs.StreamServices.{stream_free, opens_keeps, put_keeps, close_opened}

got_closed : (w : World) (left : List ℕ) → IsClosed w → IsClosed (world_of (got w left))
got_closed w [] closed = closed
got_closed w (byte ∷ left) closed = closed

-- a service on a stream that does nothing where the stream is free
at_closed : (w : World) (n : ℕ) (f : Stream → Served) → ((s : Stream) → (world_of (f s)).opened ≡ w.opened) → world_of (f Free) ≡ w → IsClosed w →
    IsClosed (world_of (f (stream w n)))
at_closed w n f same free closed unopened =
    let before : w.opened ≡ false = sym (same (stream w n)) ∙ unopened in
    ap (λ s. (world_of (f s)).streams) (stream_free w n (closed before)) ∙ ap (λ (v : World). v.streams) free ∙ closed before

get_opened : (w : World) (n : ℕ) (s : Stream) → (world_of (gets w n s)).opened ≡ w.opened
get_opened w n Free = refl
get_opened w n (Reading name []) = refl
get_opened w n (Reading name (byte ∷ left)) = refl
get_opened w n (Writing name contents) = refl

asked_closed : (w : World) → w.opened ≡ true → IsClosed w
asked_closed w asked unopened = let both : true ≡ false = sym asked ∙ unopened in absurd cc

pub stays_closed : (files : Files) (m : Memory) (what : Service) (w : World) → IsClosed w → IsClosed (world_of (served (Holding files) m what w))
stays_closed files m End w closed = closed
stays_closed files m (Stop kind line) w closed = closed
stays_closed files m (PutConsole at size) w closed = closed
stays_closed files m GetConsole w closed = got_closed w w.left closed
stays_closed files m (Open at size mode) w closed =
    asked_closed (world_of (opens (Holding files) (record w { opened = true }) (bytes_at m at size) mode)) (opens_keeps (λ v. v.opened) files (record w { opened = true }) (bytes_at m at size) mode (λ _ _. refl))
stays_closed files m (Close n) w closed = at_closed w n (closes w n) (λ s. close_opened n s w) refl closed
stays_closed files m (PutStream n at size) w closed =
    at_closed w n (puts w n (bytes_at m at size)) (λ s. put_keeps (λ v. v.opened) w n (bytes_at m at size) s (λ _. refl)) refl closed
stays_closed files m (GetStream n) w closed = at_closed w n (gets w n) (get_opened w n) refl closed
stays_closed files m (State n) w closed = closed
