use Rattle.cip_message.proofs.request.RequestView.write.Goals as goal

pub returns-clause-spelled : goal.returns-clause-spelled
returns-clause-spelled g c =
    record { service = c.append_u8.ensures.fits; whole_words = c.requires.whole_words; counted = c.requires.counted; path = c.append.ensures.bytes; «data» = c.append-2.ensures.bytes }
