-- The source (Morgan and Sufrin), section by section: where each schema is rendered, and the reason where one is not.
--
-- 4.3.1    BYTE, FILE                                       Files; that files are made of bytes: Limits
-- 4.3.2    after, readFILE, zero, shift, writeFILE          Files; of our files: FileLaws; possible for all values, the new length: Claims
-- 4.3.3    SS, createSS, destroySS                          Files
-- 4.3.4    ΦSS, readSS, writeSS                             Files
-- 4.3.5    hiding                                           what is hidden is a field; readSS simplified: Claims
-- 4.3.6    CHAN, ΔCHAN, readCHAN, writeCHAN, seekCHAN       Channels
-- 4.3.7    CS, openCS, closeCS                              Channels; ΔCS says nothing: a schema has both states
-- 4.3.8    AS, ΔAS, ΦAS, readAS, writeAS, seekAS, fstat     Channels; as the source expands them: Expansions
-- 4.3.9    NS0, createNS, lookupNS, destroyNS               Naming; ΞNS0 is one equation of lookupNS
-- 4.3.10   SYL, NAME, NS, lsNS                              Naming; which syllables there are: Limits
-- 4.3.11   dirformat, RootFid, dirstored                    Naming; of our directories: View
-- 4.3.12   FS, usedfids, direncode, openFS, readFS,
--          writeFS, closeFS, destroyFS                      Filing
--          createFS, unlinkFS                               Filing up to direncode, Departures with it; where nothing is freed: Itself
-- 4.3.13   destroyFS, honest                                Filing; equivalent to the first, and honest: Claims
-- 4.3.14   composition; linkNS, moveNS; linkFS, moveFS      Filing; Naming; Departures; what of moveFS holds: Moved of Departures
-- 4.3.15   REPORT, CidErr, NameErr, ChanErr                 Filing, with 01's reports; ΔFS with report!, success, read, open: ErrorStatements
-- 4.5.1    file size                                        Limits; reported: LimitErrors
-- 4.5.2    number of files                                  Limits; reported: LimitErrors
-- 4.5.3    capacity, device full                            Limits; reported: LimitErrors
-- 4.5.4    seekoffset                                       Channels
-- 4.5.5    n24bit                                           Limits; reported: LimitErrors
--
-- 4.2 leaves out special files, pipes and permissions; so does 01. prepare, room, make directory and remove directory are 01's own.
--
-- That each call is its schema: ChannelStatements and NameStatements, of stores; OutcomeStatements, of every outcome that keeps the
-- promise. That the invariants hold: InvariantStatements. Proofs are in the other files, here and in proofs/.
pub mod Sets
pub mod Files
pub mod Channels
pub mod Naming
pub mod Filing
pub mod View
pub mod Departures
pub mod FileLaws
pub mod ViewLaws
pub mod Accepted
pub mod InvariantStatements
pub mod Invariants
pub mod StateLaws
pub mod StepLaws
pub mod NamedBy
pub mod Tree
pub mod Freeing
pub mod ChannelStatements
pub mod Moves
pub mod HeldChannel
pub mod Renamed
pub mod NameSteps
pub mod Encoding
pub mod NameStatements
pub mod Expansions
pub mod Itself
pub mod FreeingLaws
pub mod ErrorStatements
pub mod Reports
pub mod Causes
pub mod ErrorProofs
pub mod NameErrors
pub mod DirectoryErrors
pub mod OutcomeStatements
pub mod ByteRows
pub mod Limits
pub mod ByteChanges
pub mod LimitErrors
