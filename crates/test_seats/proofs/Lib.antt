mod AtDesk
