mod SlotsGo
