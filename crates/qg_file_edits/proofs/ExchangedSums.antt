-- The sum of a file's pieces, once some are exchanged. In bytes.
use Rattle.std.proofs.Common.{◌≡◌, ℕ, ◌+◌, List, ◌++◌, ap, ◌∙◌, arith}
use Rattle.std.proofs.lemmas.List.Sums.{sum_by-append}
use Rattle.qg_num.specs.declared.piece.Piece.{Piece}
use Rattle.qg_image.specs.FilesOf.{pieces_bytes}
use Rattle.qg_file_edits.specs.Exchange.{IsExchange}

three : (front middle back : List Piece)
    → pieces_bytes ((front ++ middle) ++ back) ≡ pieces_bytes front + pieces_bytes middle + pieces_bytes back
three front middle back =
    sum_by-append (λ (piece : Piece). piece.len) (front ++ middle) back
    ∙ ap (λ (n : ℕ). n + pieces_bytes back) (sum_by-append (λ (piece : Piece). piece.len) front middle)

pub sums-exchanged : (old new gone put : List Piece) → IsExchange old new gone put
    → pieces_bytes new + pieces_bytes gone ≡ pieces_bytes old + pieces_bytes put
sums-exchanged old new gone put exchange =
    let was : pieces_bytes old ≡ pieces_bytes exchange.front + pieces_bytes gone + pieces_bytes exchange.back =
    ap pieces_bytes exchange.was ∙ three exchange.front gone exchange.back
    in
    let is : pieces_bytes new ≡ pieces_bytes exchange.front + pieces_bytes put + pieces_bytes exchange.back =
    ap pieces_bytes exchange.is ∙ three exchange.front put exchange.back
    in
    omega (arith, was, is)
