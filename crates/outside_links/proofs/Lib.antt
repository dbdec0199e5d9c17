mod Comings
